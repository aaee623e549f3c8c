-- What the calls of a workspace do.
use Rattle.std.specs.Prelude.{◌≡◌, ℕ, zero, suc, ◌+◌, Bool, true, false, cond, List, [], ◌∷◌, length, Some, None, Ok, Err, Option, Result, is_some, unwrap_or, nat_lt, slice_index, slice_set}
use Rattle.model.specs.declared.Direction.TheVariants.{Outgoing}
use Rattle.model.specs.Model.{Model, Entry}
use Rattle.model.specs.Sets.{Set, nothing, add}
use Rattle.workspace.specs.declared.record.Workspace.{Workspace}
use Rattle.workspace.specs.declared.refusal.Refusal.{Refusal}
use Rattle.workspace.specs.declared.refusal.Refusal.TheVariants.{StrayEntry, AbsentNode}
use Rattle.workspace.specs.Refusals.{first_of, Sizes, room, memory_tests, call_tests}

-- what the calls read and write: the record, the stack memory and the marks
pub record State : Type 0 where
  pub nodes : ℕ
  pub edges : ℕ
  pub walking : Bool
  pub depth : ℕ
  pub stack : List ℕ
  pub marks : Set

abbrev pub state : Workspace → List ℕ → Set → State
state w mem s = record { nodes = w.nodes; edges = w.edges; walking = is_some w.walk; depth = unwrap_or w.walk 0; stack = mem; marks = s }

pub record Outcome (A : Type 0) : Type 0 where
  pub answer : Result A Refusal
  pub after : State

-- a call that gave this answer and left this state did what it should
pub record Does {A : Type 0} (o : Outcome A) (r : Result A Refusal) (s : State) : Type 0 where
  pub answer : r ≡ o.answer
  pub after : s ≡ o.after

abbrev pub refuse : {A : Type 0} → State → Refusal → Outcome A
refuse s f = record { answer = Err f; after = s }

-- refused with the first reason that is there, else granted
abbrev pub unless : {A : Type 0} → Option Refusal → State → Outcome A → Outcome A
unless None s o = o
unless (Some f) s o = refuse s f

-- what a call's tests come to
abbrev pub fitting : Option Refusal → Result (Unit {0}) Refusal
fitting None = Ok tt
fitting (Some f) = Err f

-- a new workspace over any memory and marks
abbrev pub new_state : List ℕ → Set → State
new_state mem s = record { nodes = 0; edges = 0; walking = false; depth = 0; stack = mem; marks = s }

-- the record made new, for n nodes and m edges, with the marks clear
abbrev pub fresh_state : ℕ → ℕ → List ℕ → State
fresh_state n m mem = record { nodes = n; edges = m; walking = false; depth = 0; stack = mem; marks = nothing }

abbrev pub empty : Model → Sizes → State → Outcome (Unit {0})
empty g z s = unless (first_of (memory_tests z g.nodes g.edges)) s (record { answer = Ok tt; after = fresh_state g.nodes g.edges s.stack })

abbrev pub unfit : Model → Sizes → State → Option Refusal
unfit g z s = first_of (call_tests z g.nodes g.edges s.nodes s.edges)

abbrev pub reset : Model → Sizes → State → Outcome (Unit {0})
reset g z s = unless (unfit g z s) s (record { answer = Ok tt; after = fresh_state s.nodes s.edges s.stack })

abbrev pub move_to : Model → Sizes → ℕ → State → Outcome (Unit {0})
move_to g z a s =
    unless (unfit g z s) s
    (cond (g.present a)
    (record { answer = Ok tt; after = record { nodes = s.nodes; edges = s.edges; walking = true; depth = 1; stack = slice_set s.stack 0 a; marks = s.marks } })
    (refuse s AbsentNode))

-- the topmost unmarked entry, and how many lie below it, or a stray entry
abbrev pub Top : Type 0
Top = Result (Option (ℕ × ℕ)) Refusal

-- the topmost unmarked entry, and how many lie below it; every entry that is taken must be a present node
abbrev pub top_of : Set → Set → List ℕ → ℕ → Top
top_of present marks mem zero = Ok None
top_of present marks mem (suc d) =
    cond (present (slice_index mem d)) (cond (marks (slice_index mem d)) (top_of present marks mem d) (Ok (Some (slice_index mem d, d)))) (Err StrayEntry)

-- the unmarked far nodes of a row, in row order
abbrev pub unmarked : Set → List Entry → List ℕ
unmarked marks [] = []
unmarked marks (x ∷ xs) = cond (marks x.2) (unmarked marks xs) (x.2 ∷ unmarked marks xs)

-- memory with xs written from d on
abbrev pub write : List ℕ → ℕ → List ℕ → List ℕ
write mem d [] = mem
write mem d (x ∷ xs) = write (slice_set mem d x) (d + 1) xs

-- a is marked and shown, and its unmarked far nodes are pushed on the d entries below it
abbrev pub show : Model → State → ℕ → ℕ → Outcome (Option ℕ)
show g s a d =
    let marks = add s.marks a in
    let news = unmarked marks (g.row Outgoing a) in
    record { answer = Ok (Some a); after = record { nodes = s.nodes; edges = s.edges; walking = true; depth = d + length news; stack = write s.stack d news; marks = marks } }

abbrev pub visit_top : Model → State → Top → Outcome (Option ℕ)
visit_top g s (Ok None) = record { answer = Ok None; after = record { nodes = s.nodes; edges = s.edges; walking = true; depth = 0; stack = s.stack; marks = s.marks } }
visit_top g s (Err f) = refuse s f
visit_top g s (Ok (Some t)) = cond (nat_lt (room s.nodes s.edges) (t.1 + length (g.row Outgoing t.0))) (refuse s StrayEntry) (show g s t.0 t.1)

abbrev pub next : Model → Sizes → State → Outcome (Option ℕ)
next g z s =
    unless (unfit g z s) s
    (cond s.walking
    (visit_top g s (top_of g.present s.marks s.stack s.depth))
    (record { answer = Ok None; after = s }))
