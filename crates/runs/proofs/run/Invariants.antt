use Rattle.std.proofs.Common.{◌≡◌, ◌+◌, ◌-◌, length, drop}
use Rattle.workspace.specs.Refusals.{sizes}
use Rattle.workspace.specs.Calls.{state}
use Rattle.law.specs.Runs.{room_for}
use Rattle.law.proofs.Prefixes.{SoFar}
use Rattle.runs.proofs.run.Given as goal

abbrev pub invariant-loop-i : goal.invariant-loop-i
invariant-loop-i g l =
    let m = g.G.Graph.model l.graph in
    let k = g.M.VisitMap.limit l.initial.marks in
    let old = l.initial in
    SoFar m (sizes (length old.stack) (length old.table) k) (state old.work old.stack (g.M.VisitMap.marked old.marks)) l.calls l.answers old.results l.results old.table l.table l.i l.at (state l.work l.stack (g.M.VisitMap.marked l.marks))
    × (g.M.VisitMap.limit l.marks ≡ k)
    × (drop l.count l.answers ≡ drop l.count old.answers)
    × (l.i + room_for (drop l.i l.calls) (length old.answers - l.i) (length old.results - l.at) ≡ l.count)
