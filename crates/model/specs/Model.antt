-- What a graph means: its numbers, its nodes, its edges and its rows, and the laws that bind them.
use Rattle.std.specs.Prelude.{◌≡◌, ℕ, zero, suc, ◌+◌, ◌*◌, ◌<◌, ◌≤◌, Bool, true, false, cond, ◌||◌, ◌⊎◌, List, [], ◌∷◌, Some, None, Option, ◌==◌, nat_le}
use Rattle.model.specs.declared.Direction.{Direction}
use Rattle.model.specs.declared.Direction.TheVariants.{Outgoing, Incoming}
use Rattle.model.specs.declared.Kind.{Kind}
use Rattle.model.specs.declared.Kind.TheVariants.{OneWay, TwoWay}

-- an entry of a row: place, edge, far node
abbrev pub Entry : Type 0
Entry = ℕ × ℕ × ℕ

-- the two ends of an edge, tail and head, or nothing where there is no such edge
abbrev pub Ends : Type 0
Ends = Option (ℕ × ℕ)

-- the limits of every graph
abbrev pub most_nodes : ℕ
most_nodes = 65535

abbrev pub most_edges : ℕ
most_edges = 262144

pub record Model : Type 0 where
  pub kind : Kind
  -- N and M: nodes have numbers below N, edges below M
  pub nodes : ℕ
  pub edges : ℕ
  pub present : ℕ → Bool
  pub ends : ℕ → Ends
  pub row : Direction → ℕ → List Entry

-- What a row question answers.

-- the entries at or after a place
abbrev pub from : List Entry → ℕ → List Entry
from [] p = []
from (x ∷ xs) p = cond (nat_le p x.0) (x ∷ xs) (from xs p)

abbrev pub front : List Entry → Option Entry
front [] = None
front (x ∷ xs) = Some x

-- Which entries a row has.

-- whether an edge is due in the row of a: in the out row of its tail and in the in row of its head;
-- two-way, in both rows of both ends
abbrev pub due : Kind → Direction → Ends → ℕ → Bool
due k d None a = false
due OneWay Outgoing (Some (t, h)) a = t == a
due OneWay Incoming (Some (t, h)) a = h == a
due TwoWay Outgoing (Some (t, h)) a = t == a || h == a
due TwoWay Incoming (Some (t, h)) a = t == a || h == a

-- the end that is not a; for a self-loop a itself
abbrev pub other : ℕ × ℕ → ℕ → ℕ
other (t, h) a = cond (t == a) h t

-- b is the far node of an edge of a
abbrev pub Far : Ends → ℕ → ℕ → Type 0
Far None a b = ⊥
Far (Some (t, h)) a b = (b ≡ other (t, h) a) × ((t ≡ a) ⊎ (h ≡ a))

abbrev pub bit : Bool → ℕ
bit true = 1
bit false = 0

-- how many entries a row has for an edge
abbrev pub count_of : ℕ → List Entry → ℕ
count_of e [] = 0
count_of e (x ∷ xs) = cond (x.1 == e) (1 + count_of e xs) (count_of e xs)

-- every place is below it
abbrev pub place_limit : ℕ
place_limit = 262144

-- places ascend strictly, from low on and below the limit: past the last place there is still room
abbrev pub Ascends : ℕ → List Entry → Type 0
Ascends low [] = low ≤ place_limit
Ascends low (x ∷ xs) = (low ≤ x.0) × Ascends (x.0 + 1) xs

abbrev pub Fars : (ℕ → Ends) → ℕ → List Entry → Type 0
Fars ends a [] = Unit {0}
Fars ends a (x ∷ xs) = Far (ends x.1) a x.2 × Fars ends a xs

-- the row of a: each due edge once and no other, each with its far node, at ascending places
pub record Row (k : Kind) (d : Direction) (ends : ℕ → Ends) (a : ℕ) (row : List Entry) : Type 0 where
  pub ascends : Ascends 0 row
  pub exact : (e : ℕ) → count_of e row ≡ bit (due k d (ends e) a)
  pub fars : Fars ends a row

-- the laws of every graph
pub record Lawful (m : Model) : Type 0 where
  pub few_nodes : m.nodes ≤ most_nodes
  pub few_edges : m.edges ≤ most_edges
  pub within : (a : ℕ) → m.present a ≡ true → a < m.nodes
  pub known : (e t h : ℕ) → m.ends e ≡ Some (t, h) → (e < m.edges) × (m.present t ≡ true) × (m.present h ≡ true)
  pub rows : (d : Direction) (a : ℕ) → Row m.kind d m.ends a (m.row d a)
  pub even : m.kind ≡ TwoWay → (a : ℕ) → m.row Incoming a ≡ m.row Outgoing a

-- How much rows hold.

-- the sum of f over the numbers below n
abbrev pub sum : (ℕ → ℕ) → ℕ → ℕ
sum f zero = 0
sum f (suc n) = f n + sum f n

-- the most entries that all rows of a direction hold together
abbrev pub row_limit : Kind → ℕ → ℕ
row_limit OneWay m = m
row_limit TwoWay m = 2 * m
