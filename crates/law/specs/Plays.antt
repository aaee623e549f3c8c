-- One call after the other on a workspace's state.
use Rattle.std.specs.Prelude.{◌≡◌, ℕ, Bool, List, [], ◌∷◌, length, take, drop, Some, None, Ok, Err, Option, Result}
use Rattle.model.specs.Model.{Model, Lawful}
use Rattle.model.specs.Sets.{Set}
use Rattle.theory.specs.Models.{write_order}
use Rattle.lowpoint.specs.Cuts.{bridge_list, cut_list}
use Rattle.workspace.specs.declared.refusal.Refusal.{Refusal}
use Rattle.workspace.specs.Refusals.{Sizes}
use Rattle.workspace.specs.Calls.{State, Outcome, new_state, empty, move_to, next, reset}
use Rattle.workspace.specs.Questions.{table_left}
use Rattle.order.specs.declared.cycle.Cycle.{Cycle}
use Rattle.order.specs.Questions.{toposort, written, has_path}
use Rattle.cuts.specs.Questions.{bridges, articulation_points, listed}
use Rattle.law.specs.Law.{Law}
use Rattle.law.specs.declared.call.Question.{Question}
use Rattle.law.specs.declared.call.Question.TheVariants.{Toposort, HasPathConnecting, Bridges, ArticulationPoints}
use Rattle.law.specs.declared.call.Reply.TheVariants.{Ordered, Cycle as OnCycle, Path, Listed}
use Rattle.law.specs.declared.call.Call.{Call}
use Rattle.law.specs.declared.call.Call.TheVariants.{Empty, MoveTo, Next, Reset, Ask}
use Rattle.law.specs.declared.call.Said.TheVariants.{Done, Shown, End, Told}
use Rattle.law.specs.Runs.{Answer, Turn, lent}

-- What each call's result says.

abbrev pub told : Result (Unit {0}) Refusal → Answer
told (Ok u) = Ok Done
told (Err f) = Err f

abbrev pub met : Result (Option ℕ) Refusal → Answer
met (Ok (Some a)) = Ok (Shown a)
met (Ok None) = Ok End
met (Err f) = Err f

abbrev pub order_told : Result (Result ℕ (Cycle ℕ)) Refusal → Answer
order_told (Ok (Ok n)) = Ok (Told (Ordered n))
order_told (Ok (Err c)) = Ok (Told (OnCycle c.0))
order_told (Err f) = Err f

abbrev pub path_told : Result Bool Refusal → Answer
path_told (Ok b) = Ok (Told (Path b))
path_told (Err f) = Err f

abbrev pub list_told : Result ℕ Refusal → Answer
list_told (Ok n) = Ok (Told (Listed n))
list_told (Err f) = Err f

-- an answer, the state after the call, and its result memory after it, by what that held
pub record Played : Type 0 where
  pub answer : Answer
  pub after : State
  pub result : List ℕ → List ℕ

abbrev pub as_found : List ℕ → List ℕ
as_found old = old

abbrev pub with_told : Outcome (Unit {0}) → Played
with_told o = record { answer = told o.answer; after = o.after; result = as_found }

abbrev pub with_met : Outcome (Option ℕ) → Played
with_met o = record { answer = met o.answer; after = o.after; result = as_found }

abbrev pub with_order : List ℕ → Outcome (Result ℕ (Cycle ℕ)) → Played
with_order list o = record { answer = order_told o.answer; after = o.after; result = written o.answer list }

abbrev pub with_path : Outcome Bool → Played
with_path o = record { answer = path_told o.answer; after = o.after; result = as_found }

abbrev pub with_list : List ℕ → Outcome ℕ → Played
with_list list o = record { answer = list_told o.answer; after = o.after; result = listed o.answer list }

-- what a question does that is lent so much result memory
abbrev pub asked : Model → Sizes → ℕ → State → Question → Played
asked g z lent s (Toposort size) = with_order (write_order g) (toposort g z lent s)
asked g z lent s (HasPathConnecting a b) = with_path (has_path g z a b s)
asked g z lent s (Bridges size) = with_list (bridge_list g) (bridges g z lent s)
asked g z lent s (ArticulationPoints size) = with_list (cut_list g) (articulation_points g z lent s)

-- what a call does that is lent so much result memory
abbrev pub performed : Model → Sizes → ℕ → State → Call → Played
performed g z lent s Empty = with_told (empty g z s)
performed g z lent s (MoveTo a) = with_told (move_to g z a s)
performed g z lent s Next = with_met (next g z s)
performed g z lent s Reset = with_told (reset g z s)
performed g z lent s (Ask q) = asked g z lent s q

-- a call of a run, which is lent as much as it says
abbrev pub played : Model → Sizes → State → Call → Played
played g z s c = performed g z (lent c) s c

-- the turns of a list of calls, over memory whose pieces are lent in turn
abbrev pub plays : Model → Sizes → State → List Call → List ℕ → List Turn
plays g z s [] old = []
plays g z s (c ∷ cs) old =
    let p = played g z s c in
    record { call = c; answer = p.answer; before = take (lent c) old; after = p.result (take (lent c) old) } ∷ plays g z p.after cs (drop (lent c) old)

-- the state after a list of calls
abbrev pub after : Model → Sizes → State → List Call → State
after g z s [] = s
after g z s (c ∷ cs) = after g z (played g z s c).after cs

-- table memory after a call over a graph of n nodes: questions alone write there
abbrev pub table_after : ℕ → Call → Answer → List ℕ → List ℕ
table_after n Empty a old = old
table_after n (MoveTo s) a old = old
table_after n Next a old = old
table_after n Reset a old = old
table_after n (Ask q) a old = table_left n a old

-- table memory after a run
abbrev pub table_of : ℕ → List Turn → List ℕ → List ℕ
table_of n [] old = old
table_of n (t ∷ ts) old = table_of n ts (table_after n t.call t.answer old)

-- whatever calls are made on a new workspace, over whatever memory and marks, their turns keep the law
abbrev pub RunLaw : Type 0
RunLaw =
    (g : Model) → Lawful g → (z : Sizes) (mem : List ℕ) (k : Set) → length mem ≡ z.stack →
    (cs : List Call) (old : List ℕ) → Law g z cs (plays g z (new_state mem k) cs old)
