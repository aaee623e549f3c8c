use Rattle.std.proofs.Common.{arith}
use Rattle.lowpoint.proofs.Steps.{top_below, under_below, depth_most, new_bounds}
use Rattle.cuts.proofs.search.Search.step.Goals as goal

pub look_on-low-requires : goal.look_on-low-requires
look_on-low-requires g c = top_below (g.G.Graph.lawful c.args.self.now.graph.now) c.requires.ready.shown c.requires.some

pub go_on-requires : goal.go_on-requires
go_on-requires g c =
    let S = c.requires.ready.shown in
    let w = g.G.Graph.lawful c.args.self.now.graph.now in
    let n = new_bounds w S _ _ _ c.look_on-low.result c.in-Some.entry c.look_on-low.ensures c.in-Some.is in
    record {
      from = (top_below w S c.requires.some, omega (arith, n.place));
      far = record { below = n.below; depth = n.depth; clock = omega (arith, n.clock) };
    }

pub close-requires : goal.close-requires
close-requires g c =
    let S = c.requires.ready.shown in
    let w = g.G.Graph.lawful c.args.self.now.graph.now in
    record { latest = (c.requires.some, depth_most w S, top_below w S c.requires.some); under = under_below w S }
