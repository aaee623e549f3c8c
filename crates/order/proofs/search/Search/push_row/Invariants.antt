use Rattle.model.specs.declared.Direction.TheVariants.{Outgoing}
use Rattle.order.specs.Search.{graph_of}
use Rattle.order.proofs.Pushes.{Pushing}
use Rattle.order.proofs.search.Search.push_row.Given as goal

abbrev pub invariant-loop-far : goal.invariant-loop-far
invariant-loop-far g l = Pushing l.x l.far-iterator ((graph_of l.initial.self).row Outgoing l.x) l.initial.self l.self
