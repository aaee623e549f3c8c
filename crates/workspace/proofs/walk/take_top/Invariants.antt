use Rattle.std.proofs.Common.{◌≡◌}
use Rattle.workspace.specs.Calls.{top_of}
use Rattle.workspace.proofs.walk.take_top.Given as goal

abbrev pub invariant-loop-below : goal.invariant-loop-below
invariant-loop-below g l =
    let m = g.G.Graph.model l.graph in
    let s = g.M.VisitMap.marked l.marks in
    top_of m.present s l.stack l.below ≡ top_of m.present s l.stack l.depth
