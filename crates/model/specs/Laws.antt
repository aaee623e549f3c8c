-- What follows from the laws of a graph, for every graph.
use Rattle.std.specs.Prelude.{◌≡◌, ℕ, ◌≤◌, true, false, List, [], length}
use Rattle.model.specs.declared.Direction.{Direction}
use Rattle.model.specs.declared.Direction.TheVariants.{Outgoing, Incoming}
use Rattle.model.specs.Model.{Model, Lawful, sum, row_limit}
use Rattle.model.specs.Paths.{Leads, Step, Path, Touches, CycleAt, Topological}

abbrev pub AbsentRows : Type 0
AbsentRows = (m : Model) → Lawful m → (d : Direction) (a : ℕ) → m.present a ≡ false → m.row d a ≡ []

pub record Mirrored (m : Model) : Type 0 where
  pub out : (e a b : ℕ) → Leads e b (m.row Outgoing a) → Leads e a (m.row Incoming b)
  pub back : (e a b : ℕ) → Leads e a (m.row Incoming b) → Leads e b (m.row Outgoing a)

abbrev pub Mirror : Type 0
Mirror = (m : Model) → Lawful m → Mirrored m

abbrev pub PathPresent : Type 0
PathPresent = (m : Model) → Lawful m → (a : ℕ) (s : List Step) (b : ℕ) → Path m a s b → (v : ℕ) → Touches v a s → m.present v ≡ true

abbrev pub RowBound : Type 0
RowBound = (m : Model) → Lawful m → (d : Direction) → sum (λ a. length (m.row d a)) m.nodes ≤ row_limit m.kind m.edges

abbrev pub NoCycle : Type 0
NoCycle = (m : Model) (order : List ℕ) → Topological m order → (a : ℕ) → CycleAt m a → ⊥
