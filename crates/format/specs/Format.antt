-- The card image: the numbers that its bytes hold, and the graph that they describe.
use Rattle.std.specs.Prelude.{◌≡◌, ℕ, zero, suc, ◌+◌, ◌-◌, ◌*◌, ◌<◌, ◌≤◌, min, Bool, cond, List, [], ◌∷◌, length, Some, None, ◌==◌, nat_lt, slice_index}
use Rattle.model.specs.declared.Direction.{Direction}
use Rattle.model.specs.declared.Direction.TheVariants.{Outgoing, Incoming}
use Rattle.model.specs.declared.Kind.{Kind}
use Rattle.model.specs.declared.Kind.TheVariants.{OneWay, TwoWay}
use Rattle.model.specs.Model.{Entry, Model, due, other, bit, most_nodes, most_edges}

-- the number at an offset: four bytes, low byte first
unfoldable pub word : List ℕ → ℕ → ℕ
word b o = slice_index b o + slice_index b (o + 1) * 256 + slice_index b (o + 2) * 65536 + slice_index b (o + 3) * 16777216

-- what the tables of an image hold, by number
pub record Tables : Type 0 where
  pub kind : Kind
  pub nodes : ℕ
  pub edges : ℕ
  pub end : ℕ → ℕ
  pub start : Direction → ℕ → ℕ
  pub entry : Direction → ℕ → ℕ

-- an edge's two ends stand side by side
abbrev pub tail_of : Tables → ℕ → ℕ
tail_of t e = t.end (2 * e)

abbrev pub head_of : Tables → ℕ → ℕ
head_of t e = t.end (2 * e + 1)

-- the header fields with the offsets of the tables
abbrev pub ends_field : ℕ
ends_field = 12

abbrev pub starts_field : Direction → ℕ
starts_field Outgoing = 16
starts_field Incoming = 24

abbrev pub entries_field : Direction → ℕ
entries_field Outgoing = 20
entries_field Incoming = 28

abbrev pub tables : List ℕ → Tables
tables b = record {
  kind = cond (word b 0 == 0) OneWay TwoWay;
  nodes = word b 4;
  edges = word b 8;
  end = λ j. word b (word b ends_field + 4 * j);
  start = λ d j. word b (word b (starts_field d) + 4 * j);
  entry = λ d i. word b (word b (entries_field d) + 4 * i);
}

-- how many of n edges from e on have two equal ends
abbrev pub loops : Tables → ℕ → ℕ → ℕ
loops t e zero = 0
loops t e (suc n) = bit (tail_of t e == head_of t e) + loops t (e + 1) n

abbrev pub due_count : Kind → ℕ → ℕ → ℕ
due_count OneWay m l = m
due_count TwoWay m l = 2 * m - l

-- D: how many entries are due in all rows of a direction
abbrev pub total : Tables → ℕ
total t = due_count t.kind t.edges (loops t 0 t.edges)

-- whether the edge is due in the row of a
abbrev pub is_due : Tables → Direction → ℕ → ℕ → Bool
is_due t d a e = due t.kind d (Some (tail_of t e, head_of t e)) a

-- those of n numbers from lo on that pass a test, ascending
abbrev pub listed : (ℕ → Bool) → ℕ → ℕ → List ℕ
listed test lo zero = []
listed test lo (suc n) = cond (test lo) (lo ∷ listed test (lo + 1) n) (listed test (lo + 1) n)

-- the edges that are due in the row of a, ascending
abbrev pub due_edges : Tables → Direction → ℕ → List ℕ
due_edges t d a = listed (is_due t d a) 0 t.edges

-- n numbers of a table from the index i on
abbrev pub slice : (ℕ → ℕ) → ℕ → ℕ → List ℕ
slice x i zero = []
slice x i (suc n) = x i ∷ slice x (i + 1) n

-- the entries of a table from lo up to hi are, in order, those of the list
pub record Holds (x : ℕ → ℕ) (lo hi : ℕ) (es : List ℕ) : Type 0 where
  pub size : hi ≡ lo + length es
  pub same : slice x lo (length es) ≡ es

-- the counts are in their limits, and the header and the five tables lie inside the bytes and below 2^32
pub record Room (b : List ℕ) : Type 0 where
  pub header : 32 ≤ length b
  pub nodes : word b 4 ≤ most_nodes
  pub edges : word b 8 ≤ most_edges
  pub ends : word b ends_field + 8 * word b 8 ≤ min (length b) 4294967296
  pub starts : (d : Direction) → word b (starts_field d) + 4 * (word b 4 + 1) ≤ min (length b) 4294967296
  pub entries : (d : Direction) → word b (entries_field d) + 4 * total (tables b) ≤ min (length b) 4294967296

-- the format in its own terms
pub record WellFormed (b : List ℕ) : Type 0 where
  pub kind : word b 0 ≤ 1
  pub room : Room b
  pub ends : (e : ℕ) → e < (tables b).edges → (tail_of (tables b) e < (tables b).nodes) × (head_of (tables b) e < (tables b).nodes)
  -- does not follow from the rows: without nodes there are none, and rows could begin further on
  pub begins : (d : Direction) → (tables b).start d 0 ≡ 0
  pub rows : (d : Direction) (a : ℕ) → a < (tables b).nodes → Holds ((tables b).entry d) ((tables b).start d a) ((tables b).start d (a + 1)) (due_edges (tables b) d a)

-- The graph.

-- a row from its edges, places from p on
abbrev pub numbered : (ℕ → ℕ) → ℕ → List ℕ → List Entry
numbered far p [] = []
numbered far p (e ∷ es) = (p, e, far e) ∷ numbered far (p + 1) es

abbrev pub far : Tables → ℕ → ℕ → ℕ
far t a e = other (tail_of t e, head_of t e) a

-- the place of an entry is its index within its row
abbrev pub row : Tables → Direction → ℕ → List Entry
row t d a = cond (nat_lt a t.nodes) (numbered (far t a) 0 (slice (t.entry d) (t.start d a) (t.start d (a + 1) - t.start d a))) []

abbrev pub graph : Tables → Model
graph t = record {
  kind = t.kind;
  nodes = t.nodes;
  edges = t.edges;
  present = λ a. nat_lt a t.nodes;
  ends = λ e. cond (nat_lt e t.edges) (Some (tail_of t e, head_of t e)) None;
  row = row t;
}
