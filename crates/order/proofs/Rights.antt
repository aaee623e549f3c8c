-- The answers in the words of paths and cycles. Assumes nothing.
use Rattle.std.proofs.Common.{◌≡◌, ℕ, Bool, true, List, ◌++◌, length, take, drop, Some, None, Option, Result, sym, refl, subst}
use Rattle.std.proofs.lemmas.List.{take_at}
use Rattle.model.specs.Model.{Model, Lawful}
use Rattle.model.specs.Paths.{Reaches}
use Rattle.theory.specs.Models.{write_order, cycle_node, joined}
use Rattle.theory.proofs.Models.{orders_law, paths_law}
use Rattle.order.specs.declared.cycle.Cycle.{Cycle}
use Rattle.order.specs.Questions.{counted_or, order_answer, ordered}
use Rattle.order.specs.Right.{GoodOrder, OrderRight, Decides}

module _ {g : Model} (lawful : Lawful g) where
  -- an order that stands first, where no node is named
  pub first_order : cycle_node g ≡ None → (rest : List ℕ) → GoodOrder g (take (length (write_order g)) (write_order g ++ rest))
  first_order e rest =
      let laws = orders_law g lawful in
      let P : List ℕ → Type 0 = GoodOrder g in
      subst P (sym (take_at (write_order g) rest (length (write_order g)) refl)) (record { order = laws.valid e; acyclic = λ a c. laws.told a c e })

  counted_right : (o : Option ℕ) → cycle_node g ≡ o → (old : List ℕ) → OrderRight g (counted_or (length (write_order g)) o) (ordered (counted_or (length (write_order g)) o) (write_order g) old)
  counted_right None e old = first_order e (drop (length (write_order g)) old)
  counted_right (Some a) e old = (orders_law g lawful).on_cycle a e

  pub order_right : (a : Result ℕ (Cycle ℕ)) (old new : List ℕ) → a ≡ order_answer g → new ≡ ordered a (write_order g) old → OrderRight g a new
  order_right a old new e w =
      let P : Result ℕ (Cycle ℕ) → List ℕ → Type 0 = OrderRight g in
      let Q : Result ℕ (Cycle ℕ) → Type 0 = λ b. P b (ordered b (write_order g) old) in
      subst (P a) (sym w) (subst Q (sym e) (counted_right (cycle_node g) refl old))

  pub path_right : (a b : ℕ) (y : Bool) → g.present a ≡ true → y ≡ joined g a b → Decides y (Reaches g a b)
  path_right a b y here e =
      let w = paths_law g lawful a b here in
      let P : Bool → Type 0 = λ y. Decides y (Reaches g a b) in
      subst P (sym e) (record { sound = w.sound; whole = w.whole })
