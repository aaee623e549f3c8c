use Rattle.std.proofs.Common.{arith}
use Rattle.cuts.proofs.Ends.{ends_below}
use Rattle.cuts.proofs.found.Found.is_bridge.Goals as goal

pub bounds-self-tail : goal.bounds-self-tail
bounds-self-tail g c =
    let s = c.args.self.now in
    let b = ends_below (g.G.Graph.lawful s.graph.now) c.args.e c.in-Some.ensures in
    omega (arith, b.0, s.wide)

pub bounds-self-head : goal.bounds-self-head
bounds-self-head g c =
    let s = c.args.self.now in
    let b = ends_below (g.G.Graph.lawful s.graph.now) c.args.e c.in-Some.ensures in
    omega (arith, b.1, s.wide)
