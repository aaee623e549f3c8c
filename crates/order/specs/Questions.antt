-- What the questions answer, and what they leave.
use Rattle.std.specs.Prelude.{ℕ, Bool, not, List, [], ◌∷◌, ◌++◌, length, drop, Some, None, Ok, Err, Option, Result}
use Rattle.model.specs.Model.{Model}
use Rattle.theory.specs.Models.{write_order, cycle_node, joined}
use Rattle.workspace.specs.declared.refusal.Refusal.{Refusal}
use Rattle.workspace.specs.declared.refusal.Refusal.TheVariants.{AbsentNode}
use Rattle.workspace.specs.Refusals.{Sizes, result_test}
use Rattle.workspace.specs.Calls.{State, Outcome}
use Rattle.workspace.specs.Questions.{ask}
use Rattle.order.specs.declared.cycle.Cycle.{Cycle}

-- how many nodes the order has, or the node that answers for a cycle
abbrev pub counted_or : ℕ → Option ℕ → Result ℕ (Cycle ℕ)
counted_or n None = Ok n
counted_or n (Some a) = Err (record { 0 = a })

abbrev pub order_answer : Model → Result ℕ (Cycle ℕ)
order_answer g = counted_or (length (write_order g)) (cycle_node g)

abbrev pub toposort : Model → Sizes → ℕ → State → Outcome (Result ℕ (Cycle ℕ))
toposort g z lent s = ask g z s (result_test g.nodes lent ∷ []) (order_answer g)

-- result memory after an order: the list, and then what stood there; after a cycle as found
abbrev pub ordered : Result ℕ (Cycle ℕ) → List ℕ → List ℕ → List ℕ
ordered (Ok n) list old = list ++ drop n old
ordered (Err c) list old = old

-- after a refusal as found
abbrev pub written : Result (Result ℕ (Cycle ℕ)) Refusal → List ℕ → List ℕ → List ℕ
written (Ok a) list old = ordered a list old
written (Err f) list old = old

abbrev pub has_path : Model → Sizes → ℕ → ℕ → State → Outcome Bool
has_path g z a b s = ask g z s ((not (g.present a), AbsentNode) ∷ (not (g.present b), AbsentNode) ∷ []) (joined g a b)
