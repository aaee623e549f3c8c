-- Paths, cycles and orders, over what a graph means.
use Rattle.std.specs.Prelude.{◌≡◌, ℕ, true, ◌⊎◌, List, [], ◌∷◌}
use Rattle.model.specs.declared.Direction.TheVariants.{Outgoing}
use Rattle.model.specs.Model.{Entry, Model}

-- a row has an entry for the edge e that leads to b
abbrev pub Leads : ℕ → ℕ → List Entry → Type 0
Leads e b [] = ⊥
Leads e b (x ∷ xs) = ((x.1 ≡ e) × (x.2 ≡ b)) ⊎ Leads e b xs

-- a step of a path: the edge and the node that it leads to
abbrev pub Step : Type 0
Step = ℕ × ℕ

-- the steps follow out rows from a to b
abbrev pub Follows : Model → ℕ → List Step → ℕ → Type 0
Follows m a [] b = a ≡ b
Follows m a (x ∷ s) b = Leads x.0 x.1 (m.row Outgoing a) × Follows m x.1 s b

-- a path: steps from a present node, none or more
pub record Path (m : Model) (a : ℕ) (s : List Step) (b : ℕ) : Type 0 where
  pub start : m.present a ≡ true
  pub steps : Follows m a s b

abbrev pub In : ℕ → List ℕ → Type 0
In x [] = ⊥
In x (y ∷ ys) = (x ≡ y) ⊎ In x ys

abbrev pub edges_of : List Step → List ℕ
edges_of [] = []
edges_of (x ∷ s) = x.0 ∷ edges_of s

abbrev pub nodes_of : List Step → List ℕ
nodes_of [] = []
nodes_of (x ∷ s) = x.1 ∷ nodes_of s

-- a path from a touches its start and each far node
abbrev pub Touches : ℕ → ℕ → List Step → Type 0
Touches v a s = (v ≡ a) ⊎ In v (nodes_of s)

abbrev pub Uses : ℕ → List Step → Type 0
Uses e s = In e (edges_of s)

-- some path leads from a to b
abbrev pub Reaches : Model → ℕ → ℕ → Type 0
Reaches m a b = (s : List Step) × Path m a s b

-- a path of one step or more leads from a back to a
abbrev pub CycleAt : Model → ℕ → Type 0
CycleAt m a = (x : Step) × ((s : List Step) × Path m a (x ∷ s) a)

-- b stands after a in the list
abbrev pub Later : List ℕ → ℕ → ℕ → Type 0
Later [] a b = ⊥
Later (x ∷ xs) a b = ((a ≡ x) × In b xs) ⊎ Later xs a b

-- each out-row entry of the edge leads to a later node; says something only of an order without repeats
abbrev pub RunsForward : Model → List ℕ → ℕ → Type 0
RunsForward m order e = (a b : ℕ) → Leads e b (m.row Outgoing a) → Later order a b

-- no number stands twice in the list
abbrev pub Distinct : List ℕ → Type 0
Distinct [] = Unit {0}
Distinct (x ∷ xs) = (In x xs → ⊥) × Distinct xs

-- each present node once, every edge running forward
pub record Topological (m : Model) (order : List ℕ) : Type 0 where
  pub once : Distinct order
  pub all : (a : ℕ) → m.present a ≡ true → In a order
  pub only : (a : ℕ) → In a order → m.present a ≡ true
  pub forward : (e : ℕ) → RunsForward m order e
