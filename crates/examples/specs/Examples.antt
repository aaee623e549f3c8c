-- Small graphs, and what each definition comes to there.
use Rattle.std.specs.Prelude.{◌≡◌, true, false, List, [], ◌∷◌, Some, None, Ok}
use Rattle.model.specs.Model.{Model}
use Rattle.model.specs.Sets.{nothing}
use Rattle.model.specs.Views.{reversed, keep_edges}
use Rattle.theory.specs.Search.{preorder}
use Rattle.theory.specs.Models.{rows_of, write_order, cycle_node, joined}
use Rattle.lowpoint.specs.Cuts.{but, bridge_list, cut_list}
use Rattle.workspace.specs.Refusals.{sizes}
use Rattle.law.specs.declared.call.Call.{Call}
use Rattle.law.specs.declared.call.Call.TheVariants.{Empty, MoveTo, Next}
use Rattle.law.specs.declared.call.Said.TheVariants.{Done, Shown, End}
use Rattle.law.specs.Runs.{Answer, Turn}
use Rattle.law.specs.Law.{Answered}
use Rattle.examples.specs.Graphs.{one_way, two_way}

-- 0→1→2
abbrev pub chain : Model
chain = one_way 3 ((0, 1) ∷ (1, 2) ∷ [])

-- 0→1→2→1
abbrev pub tailed_cycle : Model
tailed_cycle = one_way 3 ((0, 1) ∷ (1, 2) ∷ (2, 1) ∷ [])

-- 0→1, 0→2, 0→3→1
abbrev pub fan : Model
fan = one_way 4 ((0, 1) ∷ (0, 2) ∷ (0, 3) ∷ (3, 1) ∷ [])

-- 0–1–2
abbrev pub path : Model
path = two_way 3 ((0, 1) ∷ (1, 2) ∷ [])

abbrev pub triangle : Model
triangle = two_way 3 ((0, 1) ∷ (1, 2) ∷ (2, 0) ∷ [])

-- a call that is lent no result memory, and its answer
abbrev pub turn : Call → Answer → Turn
turn c a = record { call = c; answer = a; before = []; after = [] }

-- three walks with no reset between them, and their answers
abbrev pub calls : List Call
calls = Empty ∷ MoveTo 0 ∷ Next ∷ MoveTo 2 ∷ Next ∷ Next ∷ MoveTo 1 ∷ Next ∷ Next ∷ []

abbrev pub walked : List Turn
walked =
    turn Empty (Ok Done) ∷ turn (MoveTo 0) (Ok Done) ∷ turn Next (Ok (Shown 0)) ∷ turn (MoveTo 2) (Ok Done) ∷ turn Next (Ok (Shown 2)) ∷
    turn Next (Ok End) ∷ turn (MoveTo 1) (Ok Done) ∷ turn Next (Ok (Shown 1)) ∷ turn Next (Ok End) ∷ []

pub record Examples : Type 0 where
  -- no nodes
  pub none_order : write_order (one_way 0 []) ≡ []
  pub none_cycle : cycle_node (one_way 0 []) ≡ None
  -- a chain, and the same reversed
  pub chain_order : write_order chain ≡ 0 ∷ 1 ∷ 2 ∷ []
  pub chain_cycle : cycle_node chain ≡ None
  pub reversed_order : write_order (reversed chain) ≡ 2 ∷ 1 ∷ 0 ∷ []
  pub reversed_cycle : cycle_node (reversed chain) ≡ None
  -- a path runs along the edges, and from each node to itself
  pub along : joined chain 0 2 ≡ true
  pub against : joined chain 2 0 ≡ false
  pub nowhere : joined chain 1 1 ≡ true
  -- 0→1→0
  pub pair_cycle : cycle_node (one_way 2 ((0, 1) ∷ (1, 0) ∷ [])) ≡ Some 1
  -- 0→0
  pub loop_cycle : cycle_node (one_way 1 ((0, 0) ∷ [])) ≡ Some 0
  -- a cycle behind node 0, and the same without the edge that closes it
  pub tailed_cycle_node : cycle_node tailed_cycle ≡ Some 2
  pub opened_order : write_order (keep_edges (but 2) tailed_cycle) ≡ 0 ∷ 1 ∷ 2 ∷ []
  pub opened_cycle : cycle_node (keep_edges (but 2) tailed_cycle) ≡ None
  -- the last entry of a row comes first
  pub fan_walk : preorder (rows_of fan) 4 nothing 0 ≡ 0 ∷ 3 ∷ 1 ∷ 2 ∷ []
  -- what an earlier walk showed is not shown again before a reset
  pub three_walks : Answered chain (sizes 8 12 3) [] calls walked
  -- bridges and cut nodes
  pub path_bridges : bridge_list path ≡ 0 ∷ 1 ∷ []
  pub path_cuts : cut_list path ≡ 1 ∷ []
  -- 0–1 twice
  pub twin_bridges : bridge_list (two_way 2 ((0, 1) ∷ (0, 1) ∷ [])) ≡ []
  pub triangle_bridges : bridge_list triangle ≡ []
  pub triangle_cuts : cut_list triangle ≡ []
  -- 0–0
  pub loop_bridges : bridge_list (two_way 1 ((0, 0) ∷ [])) ≡ []
