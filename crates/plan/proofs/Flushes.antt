-- From the order of an opened card to the answer of the plan. Assumes nothing.
use Rattle.std.proofs.Common.{◌≡◌, ℕ, List, length, drop, Some, None, Ok, Err, Option, Result, sym, refl, ap, ◌∙◌, subst}
use Rattle.std.proofs.lemmas.List.{take_at}
use Rattle.model.specs.Model.{Model, Lawful}
use Rattle.model.specs.Sets.{Set}
use Rattle.theory.specs.Models.{write_order, cycle_node}
use Rattle.format.specs.Faults.{fault}
use Rattle.workspace.specs.declared.refusal.Refusal.{Refusal}
use Rattle.workspace.specs.Refusals.{first_of, Sizes}
use Rattle.order.specs.declared.cycle.Cycle.{Cycle}
use Rattle.order.specs.Questions.{counted_or, order_answer, ordered}
use Rattle.plan.specs.declared.fault.PlanFault.TheVariants.{Memory}
use Rattle.plan.specs.Plans.{card, plan_graph, plan_tests, Answers, Plan, Plans, Right}
use Rattle.plan.proofs.Waiting.{plans_law}

-- what an order writes is a plan, or the named block waits for itself
right : (g : Model) (changed : Set) → Plans g changed → (o : Option ℕ) → cycle_node (plan_graph changed g) ≡ o → (old : List ℕ) → Right g changed (counted_or (length (write_order (plan_graph changed g))) o) (ordered (counted_or (length (write_order (plan_graph changed g))) o) (write_order (plan_graph changed g)) old)
right g changed p None e old =
    let list = write_order (plan_graph changed g) in
    let P : List ℕ → Type 0 = Plan g changed in
    subst P (sym (take_at list (drop (length list) old) (length list) refl)) (p.order e)
right g changed p (Some a) e old = p.cycle a e

pub record Done (bytes : List ℕ) (changed : Set) (z : Sizes) (lent : ℕ) (a : Result ℕ (Cycle ℕ)) (old new : List ℕ) : Type 0 where
  pub answer : Answers bytes changed z lent (Ok a)
  pub result : new ≡ ordered a (write_order (plan_graph changed (card bytes))) old
  pub right : Right (card bytes) changed a new

pub done : (bytes : List ℕ) (changed : Set) (z : Sizes) (lent : ℕ) (a : Result ℕ (Cycle ℕ)) (old new : List ℕ) (m : Model) → Lawful (card bytes) → fault bytes ≡ None → m ≡ card bytes → first_of (plan_tests z lent (plan_graph changed m)) ≡ None → a ≡ order_answer (plan_graph changed m) → new ≡ ordered a (write_order (plan_graph changed m)) old → Done bytes changed z lent a old new
done bytes changed z lent a old new m w f q u e n =
    let e' = e ∙ ap (λ g. order_answer (plan_graph changed g)) q in
    let n' = n ∙ ap (λ g. ordered a (write_order (plan_graph changed g)) old) q in
    let P : Result ℕ (Cycle ℕ) → List ℕ → Type 0 = Right (card bytes) changed in
    record {
      answer = (f, ap (λ g. first_of (plan_tests z lent (plan_graph changed g))) (sym q) ∙ u, e');
      result = n';
      right =
          subst (λ l. P a l) (sym n')
          (subst (λ b. P b (ordered b (write_order (plan_graph changed (card bytes))) old)) (sym e') (right (card bytes) changed (plans_law (card bytes) w changed) (cycle_node (plan_graph changed (card bytes))) refl old));
    }

pub refused : (bytes : List ℕ) (changed : Set) (z : Sizes) (lent : ℕ) (k : Refusal) (m : Model) → fault bytes ≡ None → m ≡ card bytes → first_of (plan_tests z lent (plan_graph changed m)) ≡ Some k → Answers bytes changed z lent (Err (Memory k))
refused bytes changed z lent k m f q u = (f, ap (λ g. first_of (plan_tests z lent (plan_graph changed g))) (sym q) ∙ u)
