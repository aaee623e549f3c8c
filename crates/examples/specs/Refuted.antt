-- Worthless answers, which the law of runs refuses.
use Rattle.std.specs.Prelude.{ℕ, true, false, List, [], ◌∷◌, Ok, Err, eqb, not}
use Rattle.model.specs.Model.{Model}
use Rattle.model.specs.Views.{keep_nodes}
use Rattle.workspace.specs.Refusals.{sizes}
use Rattle.workspace.specs.declared.refusal.Refusal.TheVariants.{StrayEntry, ResultShort}
use Rattle.law.specs.declared.call.Question.{Question}
use Rattle.law.specs.declared.call.Question.TheVariants.{Toposort, HasPathConnecting, Bridges, ArticulationPoints}
use Rattle.law.specs.declared.call.Reply.TheVariants.{Ordered, Cycle, Path, Listed}
use Rattle.law.specs.declared.call.Call.{Call}
use Rattle.law.specs.declared.call.Call.TheVariants.{Empty, MoveTo, Next, Ask}
use Rattle.law.specs.declared.call.Said.TheVariants.{Done, Shown, End, Told}
use Rattle.law.specs.Runs.{Answer, Turn}
use Rattle.law.specs.Law.{Law}
use Rattle.examples.specs.Examples.{chain, tailed_cycle, path, turn}

-- a question, its answer, and the result memory that is lent with it, before and after
abbrev pub asked : Question → Answer → List ℕ → List ℕ → Turn
asked q a old new = record { call = Ask q; answer = a; before = old; after = new }

-- a run of `empty` and these calls, with memory of the needed sizes, does not have these turns
abbrev pub No : Model → List Call → List Turn → Type 0
No g cs ts = Law g (sizes 8 12 3) (Empty ∷ cs) (turn Empty (Ok Done) ∷ ts) → ⊥

-- the same for one question
abbrev pub NoAnswer : Model → Question → Answer → List ℕ → List ℕ → Type 0
NoAnswer g q a old new = No g (Ask q ∷ []) (asked q a old new ∷ [])

pub record Refuted : Type 0 where
  -- a walk that ends before it shows its start
  pub ends_at_once : No chain (MoveTo 0 ∷ Next ∷ []) (turn (MoveTo 0) (Ok Done) ∷ turn Next (Ok End) ∷ [])
  -- a later walk that shows nothing, not even its start
  pub feigns_later :
      No chain
      (MoveTo 0 ∷ Next ∷ MoveTo 2 ∷ Next ∷ [])
      (turn (MoveTo 0) (Ok Done) ∷ turn Next (Ok (Shown 0)) ∷ turn (MoveTo 2) (Ok Done) ∷ turn Next (Ok End) ∷ [])
  -- 13 where there is a node to show
  pub refused_as_stray : No chain (MoveTo 0 ∷ Next ∷ []) (turn (MoveTo 0) (Ok Done) ∷ turn Next (Err StrayEntry) ∷ [])
  -- a walk from a node that the view leaves out
  pub ignores_views : No (keep_nodes (λ a. not (eqb a 1)) chain) (MoveTo 1 ∷ []) (turn (MoveTo 1) (Ok Done) ∷ [])
  -- one answer too few, and one too many
  pub too_few : No chain (MoveTo 0 ∷ []) []
  pub too_many : No chain [] (turn (MoveTo 0) (Ok Done) ∷ [])
  -- node 0 is on no cycle
  pub always_a_cycle : NoAnswer chain (Toposort 3) (Ok (Told (Cycle 0))) (9 ∷ 9 ∷ 9 ∷ []) (9 ∷ 9 ∷ 9 ∷ [])
  -- an order where there is a cycle
  pub always_an_order : NoAnswer tailed_cycle (Toposort 3) (Ok (Told (Ordered 3))) (9 ∷ 9 ∷ 9 ∷ []) (0 ∷ 1 ∷ 2 ∷ [])
  -- a count that is made up
  pub order_of_two : NoAnswer chain (Toposort 3) (Ok (Told (Ordered 2))) (9 ∷ 9 ∷ 9 ∷ []) (0 ∷ 1 ∷ 2 ∷ [])
  -- the right count, and a list that is backwards, or not written
  pub order_backwards : NoAnswer chain (Toposort 3) (Ok (Told (Ordered 3))) (9 ∷ 9 ∷ 9 ∷ []) (2 ∷ 1 ∷ 0 ∷ [])
  pub order_unwritten : NoAnswer chain (Toposort 3) (Ok (Told (Ordered 3))) (9 ∷ 9 ∷ 9 ∷ []) (9 ∷ 9 ∷ 9 ∷ [])
  -- the right list, and result memory past it changed
  pub past_the_list : NoAnswer chain (Toposort 4) (Ok (Told (Ordered 3))) (9 ∷ 9 ∷ 9 ∷ 9 ∷ []) (0 ∷ 1 ∷ 2 ∷ 0 ∷ [])
  -- 15 where result memory is long enough
  pub refused_as_short : NoAnswer chain (Toposort 3) (Err ResultShort) (9 ∷ 9 ∷ 9 ∷ []) (9 ∷ 9 ∷ 9 ∷ [])
  -- a path where there is none, and none where there is one
  pub path_made_up : NoAnswer chain (HasPathConnecting 2 0) (Ok (Told (Path true))) [] []
  pub path_denied : NoAnswer chain (HasPathConnecting 0 2) (Ok (Told (Path false))) [] []
  -- no bridges where there are two, and a third that is made up
  pub no_bridges : NoAnswer path (Bridges 2) (Ok (Told (Listed 0))) (9 ∷ 9 ∷ []) (9 ∷ 9 ∷ [])
  pub three_bridges : NoAnswer path (Bridges 3) (Ok (Told (Listed 3))) (9 ∷ 9 ∷ 9 ∷ []) (0 ∷ 1 ∷ 2 ∷ [])
  -- no cut nodes where there is one
  pub no_cut_nodes : NoAnswer path (ArticulationPoints 3) (Ok (Told (Listed 0))) (9 ∷ 9 ∷ 9 ∷ []) (9 ∷ 9 ∷ 9 ∷ [])
