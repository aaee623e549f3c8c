use Rattle.model.specs.declared.Direction.TheVariants.{Outgoing}
use Rattle.workspace.proofs.Tops.{Pushing}
use Rattle.workspace.proofs.walk.push_row.Given as goal

abbrev pub invariant-loop-far : goal.invariant-loop-far
invariant-loop-far g l =
    let row = (g.G.Graph.model l.graph).row Outgoing l.a in
    Pushing (g.M.VisitMap.marked l.marks) l.far-iterator row l.stack l.at l.initial.stack l.depth
