use Rattle.std.proofs.Common.{arith}
use Rattle.theory.specs.Memory.{down}
use Rattle.theory.proofs.Models.{rows_few}
use Rattle.order.specs.Search.{graph_of, rows, seen}
use Rattle.order.proofs.Outers.{known_alone, held_alone}
use Rattle.order.proofs.search.Search.begin.Goals as goal

pub returns-clause-ready : goal.returns-clause-ready
returns-clause-ready g c =
    let s = c.args.self.now in
    let r = c.requires.ready in
    record {
      roomy = omega (arith, rows_few (graph_of s) (g.G.Graph.lawful s.graph.now) (seen s));
      known = known_alone s.stack.now c.args.a _ (omega (arith, s.deep)) c.requires.inside;
      ranked = r.ranked;
      counted = r.counted;
      onward = λ b. record { forward = (r.onward b).forward; held = held_alone (rows s) (seen s) (down s.list.now s.count) s.stack.now c.args.a (omega (arith, s.deep)) c.requires.new };
    }
