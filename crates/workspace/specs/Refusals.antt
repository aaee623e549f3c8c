-- Refusals: their numbers, and the ordered tests of each call.
use Rattle.std.specs.Prelude.{ℕ, ◌+◌, ◌*◌, Bool, cond, not, ◌&&◌, List, [], ◌∷◌, ◌++◌, Some, None, Option, ◌==◌, nat_lt, codes, decimal}
use Rattle.workspace.specs.declared.sizes.Sizes.{Sizes as Lent}
use Rattle.workspace.specs.declared.refusal.Refusal.{Refusal}
use Rattle.workspace.specs.declared.refusal.Refusal.TheVariants.{StackShort, TableShort, MarksShort, OtherGraph, AbsentNode, StrayEntry, WalkOpen, ResultShort, OneWay}

abbrev pub number_of : Refusal → ℕ
number_of StackShort = 8
number_of TableShort = 9
number_of MarksShort = 10
number_of OtherGraph = 11
number_of AbsentNode = 12
number_of StrayEntry = 13
number_of WalkOpen = 14
number_of ResultShort = 15
number_of OneWay = 16

-- what `Display` writes
abbrev pub refused_text : Refusal → List ℕ
refused_text f = codes "refused " ++ decimal (number_of f)

-- a reason to refuse, and whether it is there
abbrev pub Test : Type 0
Test = Bool × Refusal

-- the first reason that is there
abbrev pub first_of : List Test → Option Refusal
first_of [] = None
first_of (t ∷ ts) = cond t.0 (Some t.1) (first_of ts)

-- the sizes of the lent memory: stack and table by entries, marks by capacity
abbrev pub Sizes : Type 0
Sizes = Lent

abbrev pub sizes : ℕ → ℕ → ℕ → Sizes
sizes s t k = record { stack = s; table = t; marks = k }

-- how many stack entries a graph needs
abbrev pub room : ℕ → ℕ → ℕ
room n m = n + 2 * m + 1

-- memory for a graph of n nodes and m edges
abbrev pub memory_tests : Sizes → ℕ → ℕ → List Test
memory_tests z n m = (nat_lt z.stack (room n m), StackShort) ∷ (nat_lt z.table (4 * n), TableShort) ∷ (nat_lt z.marks n, MarksShort) ∷ []

-- the tests of every call but `empty`: the graph has n nodes and m edges, and k and j are those that the workspace was made for
abbrev pub call_tests : Sizes → ℕ → ℕ → ℕ → ℕ → List Test
call_tests z n m k j = (not (n == k && m == j), OtherGraph) ∷ memory_tests z k j

-- result memory of so many entries
abbrev pub result_test : ℕ → ℕ → Test
result_test needed lent = (nat_lt lent needed, ResultShort)
