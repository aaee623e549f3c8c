-- What the questions of cuts answer, and what they leave.
use Rattle.std.specs.Prelude.{ℕ, Bool, true, false, List, [], ◌∷◌, ◌++◌, length, drop, Ok, Err, Result}
use Rattle.model.specs.declared.Kind.{Kind}
use Rattle.model.specs.declared.Kind.TheVariants.{OneWay, TwoWay}
use Rattle.model.specs.Model.{Model}
use Rattle.lowpoint.specs.Cuts.{bridge_list, cut_list}
use Rattle.workspace.specs.declared.refusal.Refusal.{Refusal}
use Rattle.workspace.specs.declared.refusal.Refusal.TheVariants.{OneWay as OneWayGraph}
use Rattle.workspace.specs.Refusals.{Test, Sizes, result_test}
use Rattle.workspace.specs.Calls.{State, Outcome}
use Rattle.workspace.specs.Questions.{ask}

abbrev pub is_one_way : Kind → Bool
is_one_way OneWay = true
is_one_way TwoWay = false

-- a two-way graph, and result memory of so many entries
abbrev pub cut_tests : Model → ℕ → ℕ → List Test
cut_tests g needed lent = (is_one_way g.kind, OneWayGraph) ∷ result_test needed lent ∷ []

abbrev pub bridges : Model → Sizes → ℕ → State → Outcome ℕ
bridges g z lent s = ask g z s (cut_tests g g.edges lent) (length (bridge_list g))

abbrev pub articulation_points : Model → Sizes → ℕ → State → Outcome ℕ
articulation_points g z lent s = ask g z s (cut_tests g g.nodes lent) (length (cut_list g))

-- result memory after a list: the list, and then what stood there; after a refusal as found
abbrev pub listed : Result ℕ Refusal → List ℕ → List ℕ → List ℕ
listed (Ok n) list old = list ++ drop n old
listed (Err f) list old = old
