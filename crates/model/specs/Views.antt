-- Views: what a graph means when it is looked at reversed, or without some nodes or edges.
use Rattle.std.specs.Prelude.{◌≡◌, ℕ, ◌<◌, Bool, true, cond, ◌&&◌, List, [], ◌∷◌, Some, None}
use Rattle.model.specs.declared.Direction.{Direction}
use Rattle.model.specs.declared.Direction.TheVariants.{Outgoing, Incoming}
use Rattle.model.specs.Model.{Entry, Ends, Model, Lawful}
use Rattle.model.specs.Paths.{Step, Path, Touches, Uses}
use Rattle.model.specs.Sets.{Set}

abbrev pub opposite : Direction → Direction
opposite Outgoing = Incoming
opposite Incoming = Outgoing

abbrev pub turned : Ends → Ends
turned None = None
turned (Some (t, h)) = Some (h, t)

-- rows and ends swapped
abbrev pub reversed : Model → Model
reversed m = record { kind = m.kind; nodes = m.nodes; edges = m.edges; present = m.present; ends = λ e. turned (m.ends e); row = λ d a. m.row (opposite d) a }

-- the entries that pass a test, at their places
abbrev pub keep : (Entry → Bool) → List Entry → List Entry
keep p [] = []
keep p (x ∷ xs) = cond (p x) (x ∷ keep p xs) (keep p xs)

-- an edge stays if both its ends do
abbrev pub both : Set → Ends → Ends
both has None = None
both has (Some (t, h)) = cond (has t && has h) (Some (t, h)) None

-- the nodes of a set, and the edges between them
abbrev pub keep_nodes : Set → Model → Model
keep_nodes has m =
    record {
      kind = m.kind;
      nodes = m.nodes;
      edges = m.edges;
      present = λ a. m.present a && has a;
      ends = λ e. both has (m.ends e);
      row = λ d a. cond (has a) (keep (λ x. has x.2) (m.row d a)) [];
    }

-- the edges of a set, and all nodes
abbrev pub keep_edges : Set → Model → Model
keep_edges has m =
    record {
      kind = m.kind;
      nodes = m.nodes;
      edges = m.edges;
      present = m.present;
      ends = λ e. cond (has e) (m.ends e) None;
      row = λ d a. keep (λ x. has x.1) (m.row d a);
    }

-- Each view of a graph is a graph.
pub record ViewLaws (m : Model) : Type 0 where
  pub reversed_lawful : Lawful (reversed m)
  pub nodes_lawful : (has : Set) → Lawful (keep_nodes has m)
  pub edges_lawful : (has : Set) → Lawful (keep_edges has m)

abbrev pub ViewsLawful : Type 0
ViewsLawful = (m : Model) → Lawful m → ViewLaws m

-- Reversed twice, a graph is itself.
abbrev pub ReversedTwice : Type 0
ReversedTwice = (m : Model) → reversed (reversed m) ≡ m

-- The paths in a node filter are the paths below that touch kept nodes only.
pub record NodePaths (has : Set) (m : Model) (a : ℕ) (s : List Step) (b : ℕ) : Type 0 where
  pub down : Path (keep_nodes has m) a s b → Path m a s b × ((v : ℕ) → Touches v a s → has v ≡ true)
  pub up : Path m a s b → ((v : ℕ) → Touches v a s → has v ≡ true) → Path (keep_nodes has m) a s b

abbrev pub NodeFilterPaths : Type 0
NodeFilterPaths = (has : Set) (m : Model) (a : ℕ) (s : List Step) (b : ℕ) → NodePaths has m a s b

-- The paths in an edge filter are the paths below that use kept edges only.
pub record EdgePaths (has : Set) (m : Model) (a : ℕ) (s : List Step) (b : ℕ) : Type 0 where
  pub down : Path (keep_edges has m) a s b → Path m a s b × ((e : ℕ) → Uses e s → has e ≡ true)
  pub up : Path m a s b → ((e : ℕ) → Uses e s → has e ≡ true) → Path (keep_edges has m) a s b

abbrev pub EdgeFilterPaths : Type 0
EdgeFilterPaths = (has : Set) (m : Model) (a : ℕ) (s : List Step) (b : ℕ) → EdgePaths has m a s b

-- A filter that keeps all nodes, or all edges, changes nothing.
pub record Whole (has : Set) (m : Model) : Type 0 where
  pub nodes : ((a : ℕ) → a < m.nodes → has a ≡ true) → keep_nodes has m ≡ m
  pub edges : ((e : ℕ) → e < m.edges → has e ≡ true) → keep_edges has m ≡ m

abbrev pub WholeFilters : Type 0
WholeFilters = (has : Set) (m : Model) → Lawful m → Whole has m
