-- The first fault of an image: an ordered list of tests, each with its number and the offset of the first field that fails it.
use Rattle.std.specs.Prelude.{ℕ, zero, suc, ◌+◌, ◌-◌, ◌*◌, min, Bool, true, cond, ◌&&◌, ltb, List, [], ◌∷◌, ◌++◌, length, Some, None, Option, ◌==◌, nat_le, nat_lt}
use Rattle.model.specs.declared.Direction.{Direction}
use Rattle.model.specs.declared.Direction.TheVariants.{Outgoing, Incoming}
use Rattle.model.specs.Model.{most_nodes, most_edges}
use Rattle.format.specs.Format.{word, Tables, tables, total, is_due, ends_field, starts_field, entries_field}

-- number and byte offset
abbrev pub Fault : Type 0
Fault = ℕ × ℕ

-- one test: nothing where it passes
abbrev pub test : Bool → ℕ → ℕ → Option Fault
test ok k o = cond ok None (Some (k, o))

-- the first of some faults
abbrev pub firstly : List (Option Fault) → Option Fault
firstly [] = None
firstly (None ∷ xs) = firstly xs
firstly (Some f ∷ xs) = Some f

-- the first of n indices from i on that fails a test
abbrev pub first : (ℕ → Bool) → ℕ → ℕ → Option ℕ
first ok i zero = None
first ok i (suc n) = cond (ok i) (first ok (i + 1) n) (Some i)

abbrev pub or_in : Option ℕ → Option ℕ → Option ℕ
or_in None y = y
or_in (Some i) y = Some i

-- the first failing index of n rows from a on, each with its own test; row a has the indices from s a up to s (a + 1)
abbrev pub first_in : (ℕ → ℕ → Bool) → (ℕ → ℕ) → ℕ → ℕ → Option ℕ
first_in ok s a zero = None
first_in ok s a (suc n) = or_in (first (ok a) (s a) (s (a + 1) - s a)) (first_in ok s (a + 1) n)

-- an index of a table of numbers as a fault
abbrev pub in_table : ℕ → ℕ → Option ℕ → Option Fault
in_table k base None = None
in_table k base (Some j) = Some (k, base + 4 * j)

-- a table lies inside the bytes and below 2^32
abbrev pub fits : List ℕ → ℕ → ℕ → Bool
fits b o size = nat_le (o + size) (min (length b) 4294967296)

-- a start: the first is 0, none falls, none passes D, the last is D
abbrev pub start_ok : (ℕ → ℕ) → ℕ → ℕ → ℕ → Bool
start_ok s n d j = cond (j == 0) (s j == 0) (nat_le (s (j - 1)) (s j)) && nat_le (s j) d && cond (j == n) (s j == d) true

-- an entry of the row that begins at low: an edge, due in the row, above the entry before it
abbrev pub entry_ok : (ℕ → ℕ) → ℕ → (ℕ → Bool) → ℕ → ℕ → Bool
entry_ok x m due low i = nat_lt (x i) m && due (x i) && cond (i == low) true (nat_lt (x (i - 1)) (x i))

abbrev pub bad_end : Tables → Option ℕ
bad_end t = first (λ j. ltb (t.end j) t.nodes) 0 (2 * t.edges)

abbrev pub bad_start : Tables → Direction → Option ℕ
bad_start t d = first (start_ok (t.start d) t.nodes (total t)) 0 (t.nodes + 1)

abbrev pub bad_entry : Tables → Direction → Option ℕ
bad_entry t d = first_in (λ a. entry_ok (t.entry d) t.edges (is_due t d a) (t.start d a)) (t.start d) 0 t.nodes

-- The tests in their order: the header, the room for the tables, what they hold.

abbrev pub header_tests : List ℕ → List (Option Fault)
header_tests b =
    test (nat_le 32 (length b)) 1 (length b)
    ∷ test (nat_le (word b 0) 1) 2 0
    ∷ test (nat_le (word b 4) most_nodes) 3 4
    ∷ test (nat_le (word b 8) most_edges) 3 8
    ∷ []

abbrev pub room_tests : List ℕ → List (Option Fault)
room_tests b =
    let t = tables b in
    test (fits b (word b ends_field) (8 * t.edges)) 4 ends_field
    ∷ test (fits b (word b (starts_field Outgoing)) (4 * (t.nodes + 1))) 4 (starts_field Outgoing)
    ∷ test (fits b (word b (entries_field Outgoing)) (4 * total t)) 4 (entries_field Outgoing)
    ∷ test (fits b (word b (starts_field Incoming)) (4 * (t.nodes + 1))) 4 (starts_field Incoming)
    ∷ test (fits b (word b (entries_field Incoming)) (4 * total t)) 4 (entries_field Incoming)
    ∷ []

abbrev pub table_tests : List ℕ → List (Option Fault)
table_tests b =
    let t = tables b in
    in_table 5 (word b ends_field) (bad_end t)
    ∷ in_table 6 (word b (starts_field Outgoing)) (bad_start t Outgoing)
    ∷ in_table 6 (word b (starts_field Incoming)) (bad_start t Incoming)
    ∷ in_table 7 (word b (entries_field Outgoing)) (bad_entry t Outgoing)
    ∷ in_table 7 (word b (entries_field Incoming)) (bad_entry t Incoming)
    ∷ []

abbrev pub layout_tests : List ℕ → List (Option Fault)
layout_tests b = header_tests b ++ room_tests b

-- the image's fault, or nothing where it is accepted
abbrev pub fault : List ℕ → Option Fault
fault b = firstly (layout_tests b ++ table_tests b)
