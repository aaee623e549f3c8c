use Rattle.std.proofs.Common.{ap, arith}
use Rattle.workspace.proofs.Tops.{taken}
use Rattle.workspace.proofs.Nexts.{fit_tells}
use Rattle.workspace.proofs.record.Workspace.next.Goals as goal

pub overflow_sub-room : goal.overflow_sub-room
overflow_sub-room g c =
    let t = taken (g.G.Graph.model c.args.graph.now).present (g.M.VisitMap.marked c.args.marks.now) c.args.stack.now c.args.self.now.within c.in-Some.is c.in_ok-a.ensures c.in-Some-2.is in
    omega (arith, t.below, c.room.ensures)

pub show-requires : goal.show-requires
show-requires g c =
    let m = g.G.Graph.model c.args.graph.now in
    let r = c.args.self.now in
    let t = taken m.present (g.M.VisitMap.marked c.args.marks.now) c.args.stack.now r.within c.in-Some.is c.in_ok-a.ensures c.in-Some-2.is in
    let f = fit_tells m c.of.result r.nodes r.edges c.in_ok-check_fit.ensures in (
      omega (arith, (g.G.Graph.lawful c.args.graph.now).within c.in-Some-2.a t.present, f.nodes, f.marks, ap (λ z. z.marks) c.of.ensures),
      omega (arith, t.below, f.stack, ap (λ z. z.stack) c.of.ensures, c.room.ensures, c.row_len.ensures, c.if-row_len-room.false),
      omega (arith, t.below, c.room.ensures, c.row_len.ensures, c.if-row_len-room.false),
    )
