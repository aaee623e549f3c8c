use Rattle.std.proofs.Common.{sym, ◌∙◌, arith}
use Rattle.model.proofs.Sets.{free_step, free_stop, free_over}
use Rattle.marks.proofs.VisitMap.first_unmarked.Goals as goal

pub returns-then-not-is_visited : goal.returns-then-not-is_visited
returns-then-not-is_visited g c =
    let s = g.Self.VisitMap.marked c.args.self.now in
    let n = g.Self.VisitMap.limit c.args.self.now in
    sym (c.loop-k.invariant ∙ free_stop s n c.loop-k.k (omega arith) (sym c.if-not-is_visited.ensures))

pub loop-k-preserved : goal.loop-k-preserved
loop-k-preserved g c =
    let s = g.Self.VisitMap.marked c.args.self.now in
    let n = g.Self.VisitMap.limit c.args.self.now in
    c.loop-k.invariant ∙ free_step s n c.loop-k.k (omega arith) (sym c.if-not-is_visited.ensures)

pub returns : goal.returns
returns g c =
    let s = g.Self.VisitMap.marked c.args.self.now in
    let n = g.Self.VisitMap.limit c.args.self.now in
    sym (c.loop-k.invariant ∙ free_over s n c.loop-k.k (omega arith))
