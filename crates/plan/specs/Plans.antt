-- The flush plan: the write order of the changed blocks of a card.
use Rattle.std.specs.Prelude.{◌≡◌, ℕ, ◌*◌, true, List, [], ◌∷◌, ◌++◌, length, take, Some, None, Ok, Err, Result, MatchResult}
use Rattle.model.specs.declared.Direction.TheVariants.{Outgoing}
use Rattle.model.specs.Model.{Model, Lawful}
use Rattle.model.specs.Paths.{In, Leads, Distinct, Later}
use Rattle.model.specs.Sets.{Set}
use Rattle.model.specs.Views.{reversed, keep_nodes}
use Rattle.theory.specs.Models.{write_order, cycle_node}
use Rattle.format.specs.Format.{tables, graph}
use Rattle.format.specs.Faults.{fault}
use Rattle.image.specs.Told.{told}
use Rattle.workspace.specs.declared.refusal.Refusal.{Refusal}
use Rattle.workspace.specs.Refusals.{Test, first_of, Sizes, memory_tests, result_test, room}
use Rattle.workspace.specs.Questions.{zeroed}
use Rattle.order.specs.declared.cycle.Cycle.{Cycle}
use Rattle.order.specs.Questions.{order_answer, ordered}
use Rattle.plan.specs.declared.fault.PlanFault.{PlanFault}
use Rattle.plan.specs.declared.fault.PlanFault.TheVariants.{Image, Memory}

-- How a link is read: its tail needs its head on the card first. So in the graph read this way an edge leads from the block
-- that comes first to the block that needs it.
abbrev pub reading : Model → Model
reading g = reversed g

-- a link puts b before a
abbrev pub Before : Model → ℕ → ℕ → Type 0
Before g b a = (e : ℕ) × Leads e a ((reading g).row Outgoing b)

-- the graph that is ordered: the changed blocks, and the links between them, as they are read
abbrev pub plan_graph : Set → Model → Model
plan_graph changed g = reading (keep_nodes changed g)

-- a waits for b: links between changed blocks, one or more, put b before a
pub data Waits (g : Model) (changed : Set) (a : ℕ) : ℕ → Type 0 where
  one : {b : ℕ} → changed a ≡ true → changed b ≡ true → Before g b a → Waits g changed a b
  more : {b c : ℕ} → Waits g changed a b → changed c ≡ true → Before g c b → Waits g changed a c

-- each changed block once, each after every changed block that a link puts before it; and no block waits for itself
pub record Plan (g : Model) (changed : Set) (list : List ℕ) : Type 0 where
  pub once : Distinct list
  pub all : (a : ℕ) → g.present a ≡ true → changed a ≡ true → In a list
  pub only : (a : ℕ) → In a list → (g.present a ≡ true) × (changed a ≡ true)
  pub after : (a b : ℕ) → changed a ≡ true → changed b ≡ true → Before g b a → Later list b a
  pub acyclic : (a : ℕ) → Waits g changed a a → ⊥

-- the order is a plan, or the named block waits for itself
pub record Plans (g : Model) (changed : Set) : Type 0 where
  pub order : cycle_node (plan_graph changed g) ≡ None → Plan g changed (write_order (plan_graph changed g))
  pub cycle : (a : ℕ) → cycle_node (plan_graph changed g) ≡ Some a → Waits g changed a a

abbrev pub PlansLaw : Type 0
PlansLaw = (g : Model) → Lawful g → (changed : Set) → Plans g changed

-- What `flush_plan` answers.

-- the graph of an image's bytes
abbrev pub card : List ℕ → Model
card bytes = graph (tables bytes)

-- the tests of memory, after those of the image
abbrev pub plan_tests : Sizes → ℕ → Model → List Test
plan_tests z lent g = memory_tests z g.nodes g.edges ++ result_test g.nodes lent ∷ []

-- what the order of a graph in a workspace of its own answers and does to stack, table and result memory; after a refusal they are as found
pub record Anew (g : Model) (z : Sizes) (a : Result (Result ℕ (Cycle ℕ)) Refusal) (s t r s' t' r' : List ℕ) : Type 0 where
  pub answer : MatchResult a (λ o. (first_of (plan_tests z (length r) g) ≡ None) × (o ≡ order_answer g)) (λ k. first_of (plan_tests z (length r) g) ≡ Some k)
  pub stack : MatchResult a (λ _. s' ≡ zeroed (room g.nodes g.edges) s) (λ _. s' ≡ s)
  pub table : MatchResult a (λ _. t' ≡ zeroed (4 * g.nodes) t) (λ _. t' ≡ t)
  pub res : MatchResult a (λ o. r' ≡ ordered o (write_order g) r) (λ _. r' ≡ r)

-- granted: the order's answer over the changed blocks of the card; else the image's first fault, or the first test of memory that fails
abbrev pub Answers : List ℕ → Set → Sizes → ℕ → Result (Result ℕ (Cycle ℕ)) PlanFault → Type 0
Answers bytes changed z lent (Ok a) = (fault bytes ≡ None) × (first_of (plan_tests z lent (card bytes)) ≡ None) × (a ≡ order_answer (plan_graph changed (card bytes)))
Answers bytes changed z lent (Err (Image f)) = fault bytes ≡ Some (told f)
Answers bytes changed z lent (Err (Memory k)) = (fault bytes ≡ None) × (first_of (plan_tests z lent (card bytes)) ≡ Some k)

-- memory after it
abbrev pub stack_after : List ℕ → Result (Result ℕ (Cycle ℕ)) PlanFault → List ℕ → List ℕ
stack_after bytes (Ok a) old = zeroed (room (card bytes).nodes (card bytes).edges) old
stack_after bytes (Err f) old = old

abbrev pub table_after : List ℕ → Result (Result ℕ (Cycle ℕ)) PlanFault → List ℕ → List ℕ
table_after bytes (Ok a) old = zeroed (4 * (card bytes).nodes) old
table_after bytes (Err f) old = old

abbrev pub result_after : List ℕ → Set → Result (Result ℕ (Cycle ℕ)) PlanFault → List ℕ → List ℕ
result_after bytes changed (Ok a) old = ordered a (write_order (plan_graph changed (card bytes))) old
result_after bytes changed (Err f) old = old

-- in the words of blocks and links: what is written is a plan, or the named block waits for itself
abbrev pub Right : Model → Set → Result ℕ (Cycle ℕ) → List ℕ → Type 0
Right g changed (Ok n) new = Plan g changed (take n new)
Right g changed (Err c) new = Waits g changed c.0 c.0
