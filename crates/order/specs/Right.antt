-- What the questions answer, in the words of paths and cycles.
use Rattle.std.specs.Prelude.{◌≡◌, ℕ, Bool, true, List, take, Ok, Err, Result}
use Rattle.model.specs.Model.{Model}
use Rattle.model.specs.Paths.{CycleAt, Topological}
use Rattle.order.specs.declared.cycle.Cycle.{Cycle}

-- an order lists each present node once, every edge running forward, and there is no cycle
pub record GoodOrder (g : Model) (list : List ℕ) : Type 0 where
  pub order : Topological g list
  pub acyclic : (a : ℕ) → CycleAt g a → ⊥

-- the first entries are an order, or the named node is on a cycle
abbrev pub OrderRight : Model → Result ℕ (Cycle ℕ) → List ℕ → Type 0
OrderRight g (Ok n) new = GoodOrder g (take n new)
OrderRight g (Err c) new = CycleAt g c.0

-- yes exactly where P holds
pub record Decides (b : Bool) (P : Type 0) : Type 0 where
  pub sound : b ≡ true → P
  pub whole : P → b ≡ true
