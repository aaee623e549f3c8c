-- A run: calls with their answers. What is open, what was shown and what is due next are functions of these alone.
use Rattle.std.specs.Prelude.{ℕ, zero, suc, ◌+◌, ◌-◌, Bool, true, false, cond, not, ◌&&◌, List, [], ◌∷◌, ◌++◌, length, take, drop, Some, None, Option, Ok, Err, Result, nat_le, nat_lt}
use Rattle.model.specs.Model.{Model}
use Rattle.model.specs.Sets.{Set, nothing, add}
use Rattle.theory.specs.Search.{preorder}
use Rattle.theory.specs.Models.{rows_of, write_order, cycle_node, joined}
use Rattle.lowpoint.specs.Cuts.{bridge_list, cut_list}
use Rattle.workspace.specs.declared.refusal.Refusal.{Refusal}
use Rattle.workspace.specs.declared.refusal.Refusal.TheVariants.{AbsentNode, WalkOpen}
use Rattle.workspace.specs.Refusals.{Test, first_of, Sizes, memory_tests, call_tests, result_test}
use Rattle.cuts.specs.Questions.{cut_tests}
use Rattle.law.specs.declared.call.Question.{Question}
use Rattle.law.specs.declared.call.Question.TheVariants.{Toposort, HasPathConnecting, Bridges, ArticulationPoints}
use Rattle.law.specs.declared.call.Reply.TheVariants.{Ordered, Cycle, Path, Listed}
use Rattle.law.specs.declared.call.Call.{Call}
use Rattle.law.specs.declared.call.Call.TheVariants.{Empty, MoveTo, Next, Reset, Ask}
use Rattle.law.specs.declared.call.Said.{Said}
use Rattle.law.specs.declared.call.Said.TheVariants.{Done, Shown, End, Told}

-- what a granted call says, or why it is refused
abbrev pub Answer : Type 0
Answer = Result Said Refusal

-- calls and their answers so far, the newest first
abbrev pub Past : Type 0
Past = List (Call × Answer)

-- granted calls alone count
abbrev pub granted : Answer → Bool
granted (Ok a) = true
granted (Err f) = false

abbrev pub counts_after : Model → Call → ℕ × ℕ → ℕ × ℕ
counts_after g Empty old = (g.nodes, g.edges)
counts_after g (MoveTo a) old = old
counts_after g Next old = old
counts_after g Reset old = old
counts_after g (Ask q) old = old

-- N and M as the latest granted `empty` found them; 0 before it
abbrev pub counts : Model → Past → ℕ × ℕ
counts g [] = (0, 0)
counts g (p ∷ h) = cond (granted p.1) (counts_after g p.0 (counts g h)) (counts g h)

abbrev pub with_shown : Answer → List ℕ → List ℕ
with_shown (Ok Done) xs = xs
with_shown (Ok (Shown x)) xs = x ∷ xs
with_shown (Ok End) xs = xs
with_shown (Ok (Told r)) xs = xs
with_shown (Err f) xs = xs

abbrev pub shown_after : Call → Answer → List ℕ → List ℕ
shown_after Empty a xs = []
shown_after (MoveTo s) a xs = xs
shown_after Next a xs = with_shown a xs
shown_after Reset a xs = []
shown_after (Ask q) a xs = xs

-- the nodes shown since the last reset, the newest first
abbrev pub shown : Past → List ℕ
shown [] = []
shown (p ∷ h) = cond (granted p.1) (shown_after p.0 p.1 (shown h)) (shown h)

-- an open walk: its latest start, the nodes shown between the last reset and that start, and the granted nexts since
pub record Walk : Type 0 where
  pub start : ℕ
  pub before : List ℕ
  pub nexts : ℕ

abbrev pub one_more : Option Walk → Option Walk
one_more None = None
one_more (Some w) = Some (record { start = w.start; before = w.before; nexts = suc w.nexts })

abbrev pub walk_after : Call → List ℕ → Option Walk → Option Walk
walk_after Empty xs w = None
walk_after (MoveTo s) xs w = Some (record { start = s; before = xs; nexts = 0 })
walk_after Next xs w = one_more w
walk_after Reset xs w = None
walk_after (Ask q) xs w = w

abbrev pub walk_of : Past → Option Walk
walk_of [] = None
walk_of (p ∷ h) = cond (granted p.1) (walk_after p.0 (shown h) (walk_of h)) (walk_of h)

abbrev pub is_open : Option Walk → Bool
is_open None = false
is_open (Some w) = true

-- a list as a set
abbrev pub has : List ℕ → Set
has [] = nothing
has (x ∷ xs) = add (has xs) x

-- the depth-first order from the walk's start, over the graph without the nodes shown before it
abbrev pub order_of : Model → Walk → List ℕ
order_of g w = preorder (rows_of g) g.nodes (has w.before) w.start

-- the node with this number in the list, from 0 on, or the end
abbrev pub nth : List ℕ → ℕ → Said
nth [] k = End
nth (x ∷ xs) zero = Shown x
nth (x ∷ xs) (suc k) = nth xs k

abbrev pub walk_answer : Model → Option Walk → Said
walk_answer g None = End
walk_answer g (Some w) = nth (order_of g w) w.nexts

-- Refusals.

-- the tests of every call but `empty`
abbrev pub fit_tests : Model → Sizes → Past → List Test
fit_tests g z h = call_tests z g.nodes g.edges (counts g h).0 (counts g h).1

-- the tests of every question: no walk may be open
abbrev pub asked_tests : Model → Sizes → Past → List Test
asked_tests g z h = fit_tests g z h ++ (is_open (walk_of h), WalkOpen) ∷ []

-- the tests that each question has of its own
abbrev pub own_tests : Model → Question → List Test
own_tests g (Toposort size) = result_test g.nodes size ∷ []
own_tests g (HasPathConnecting a b) = (not (g.present a), AbsentNode) ∷ (not (g.present b), AbsentNode) ∷ []
own_tests g (Bridges size) = cut_tests g g.edges size
own_tests g (ArticulationPoints size) = cut_tests g g.nodes size

-- What is due.

-- an answer, and the list that is written into result memory with it
pub record Due : Type 0 where
  pub answer : Answer
  pub list : List ℕ

-- said, with nothing written
abbrev pub only : Said → Due
only a = record { answer = Ok a; list = [] }

-- refused with the first reason that is there, with nothing written, or else granted
abbrev pub unless : Option Refusal → Due → Due
unless None d = d
unless (Some f) d = record { answer = Err f; list = [] }

-- the order and how many nodes it has; where there is a cycle, a node on it
abbrev pub order_due : List ℕ → Option ℕ → Due
order_due order None = record { answer = Ok (Told (Ordered (length order))); list = order }
order_due order (Some a) = only (Told (Cycle a))

-- a list and how many numbers it has
abbrev pub list_due : List ℕ → Due
list_due list = record { answer = Ok (Told (Listed (length list))); list = list }

-- what a granted question tells, by the graph alone
abbrev pub told_due : Model → Question → Due
told_due g (Toposort size) = order_due (write_order g) (cycle_node g)
told_due g (HasPathConnecting a b) = only (Told (Path (joined g a b)))
told_due g (Bridges size) = list_due (bridge_list g)
told_due g (ArticulationPoints size) = list_due (cut_list g)

-- the one right answer to a call, from the pile, the lent sizes and the calls so far
abbrev pub due : Model → Sizes → Past → Call → Due
due g z h Empty = unless (first_of (memory_tests z g.nodes g.edges)) (only Done)
due g z h (MoveTo a) = unless (first_of (fit_tests g z h ++ (not (g.present a), AbsentNode) ∷ [])) (only Done)
due g z h Next = unless (first_of (fit_tests g z h)) (only (walk_answer g (walk_of h)))
due g z h Reset = unless (first_of (fit_tests g z h)) (only Done)
due g z h (Ask q) = unless (first_of (asked_tests g z h ++ own_tests g q)) (told_due g q)

-- Turns.

-- how much result memory is lent with a question
abbrev pub lent_with : Question → ℕ
lent_with (Toposort size) = size
lent_with (HasPathConnecting a b) = 0
lent_with (Bridges size) = size
lent_with (ArticulationPoints size) = size

abbrev pub lent : Call → ℕ
lent Empty = 0
lent (MoveTo a) = 0
lent Next = 0
lent Reset = 0
lent (Ask q) = lent_with q

-- how much the calls are lent together
abbrev pub lent_all : List Call → ℕ
lent_all [] = 0
lent_all (c ∷ cs) = lent c + lent_all cs

-- how many calls there is room for: for their answers, and for the result memory that they are lent
abbrev pub room_for : List Call → ℕ → ℕ → ℕ
room_for [] answers results = 0
room_for (c ∷ cs) answers results = cond (nat_lt 0 answers && nat_le (lent c) results) (1 + room_for cs (answers - 1) (results - lent c)) 0

-- one turn of a run: a call, its answer, and the result memory that is lent with it, before and after
pub record Turn : Type 0 where
  pub call : Call
  pub answer : Answer
  pub before : List ℕ
  pub after : List ℕ

-- the turns of a run whose calls have the pieces of one memory in turn
abbrev pub turns : List Call → List Answer → List ℕ → List ℕ → List Turn
turns [] rs old new = []
turns (c ∷ cs) [] old new = []
turns (c ∷ cs) (a ∷ rs) old new =
    record { call = c; answer = a; before = take (lent c) old; after = take (lent c) new } ∷ turns cs rs (drop (lent c) old) (drop (lent c) new)
