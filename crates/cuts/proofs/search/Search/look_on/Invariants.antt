use Rattle.std.proofs.Common.{◌≡◌, ◌<◌, get_or}
use Rattle.std.specs.Prelude.{All}
use Rattle.model.specs.declared.Direction.TheVariants.{Outgoing}
use Rattle.model.specs.Model.{from}
use Rattle.lowpoint.specs.Steps.{looked}
use Rattle.cuts.specs.Shape.{model}
use Rattle.cuts.proofs.search.Search.look_on.Given as goal

abbrev pub invariant-loop-place : goal.invariant-loop-place
invariant-loop-place g l =
    let s = l.self in
    let rest = from ((model s).row Outgoing l.x) (get_or s.cursors.now l.x 0) in
    All (λ q. q.2 < (model s).nodes) l.place-iterator
    × (looked s.numbers.now l.above l.low l.place-iterator ≡ looked s.numbers.now l.above l.initial.low rest)
