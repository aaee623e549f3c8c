-- Questions: calls that need a closed workspace, and leave it closed and its memory clean.
use Rattle.std.specs.Prelude.{◌≡◌, ℕ, ◌*◌, ◌≤◌, min, List, [], ◌∷◌, ◌++◌, length, drop, replicate, None, Ok, Err, Result}
use Rattle.model.specs.Model.{Model}
use Rattle.workspace.specs.declared.refusal.Refusal.{Refusal}
use Rattle.workspace.specs.declared.refusal.Refusal.TheVariants.{WalkOpen}
use Rattle.workspace.specs.Refusals.{Test, first_of, Sizes, room, call_tests}
use Rattle.workspace.specs.Calls.{State, Outcome, unless, fresh_state}

-- the memory is large enough for the graph, which is the record's
pub record Fit (g : Model) (z : Sizes) (n k : ℕ) : Type 0 where
  pub nodes : g.nodes ≡ n
  pub edges : g.edges ≡ k
  pub stack : room n k ≤ z.stack
  pub table : 4 * n ≤ z.table
  pub marks : n ≤ z.marks
  pub none : first_of (call_tests z g.nodes g.edges n k) ≡ None

-- memory whose first n entries are 0
abbrev pub zeroed : ℕ → List ℕ → List ℕ
zeroed n mem = replicate (min n (length mem)) 0 ++ drop n mem

-- closed, the marks clear, and the stack entries that the graph needs zero
abbrev pub tidied : State → State
tidied s = fresh_state s.nodes s.edges (zeroed (room s.nodes s.edges) s.stack)

-- table memory after a question of a graph of n nodes: the entries that it needs zero; after a refusal as found
abbrev pub table_left : {A : Type 0} → ℕ → Result A Refusal → List ℕ → List ℕ
table_left n (Ok a) old = zeroed (4 * n) old
table_left n (Err f) old = old

-- the tests of every question, before those of its own
abbrev pub question_tests : Model → Sizes → State → List Test
question_tests g z s = call_tests z g.nodes g.edges s.nodes s.edges ++ (s.walking, WalkOpen) ∷ []

-- a question: the tests of every question, its own, and the answer that is due
abbrev pub ask : {A : Type 0} → Model → Sizes → State → List Test → A → Outcome A
ask g z s own a = unless (first_of (question_tests g z s)) s (unless (first_of own) s (record { answer = Ok a; after = tidied s }))
