use Rattle.std.proofs.Common.{◌≡◌, ◌-◌}
use Rattle.model.specs.Sets.{first_free}
use Rattle.marks.proofs.VisitMap.first_unmarked.Given as goal

abbrev pub invariant-loop-k : goal.invariant-loop-k
invariant-loop-k g l =
    let s = g.Self.VisitMap.marked l.self in
    let n = g.Self.VisitMap.limit l.self in
    first_free s l.place (n - l.place) ≡ first_free s l.k (n - l.k)
