-- The laws of the format.
use Rattle.std.specs.Prelude.{◌≡◌, ℕ, List, None}
use Rattle.model.specs.Model.{Lawful}
use Rattle.format.specs.Format.{tables, graph, WellFormed}
use Rattle.format.specs.Faults.{fault}

abbrev pub AcceptedGraph : Type 0
AcceptedGraph = (b : List ℕ) → fault b ≡ None → Lawful (graph (tables b))

pub record Agrees (b : List ℕ) : Type 0 where
  pub accepted : fault b ≡ None → WellFormed b
  pub well_formed : WellFormed b → fault b ≡ None

abbrev pub AcceptedWellFormed : Type 0
AcceptedWellFormed = (b : List ℕ) → Agrees b
