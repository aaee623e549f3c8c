use Rattle.std.proofs.Common.{rules}
use Rattle.lowpoint.proofs.Outers.{begun, end_searched}
use Rattle.cuts.proofs.search.Search.search_all.Goals as goal

pub loop-i-init : goal.loop-i-init
loop-i-init g c = (begun c.requires.clean, search rules)

pub returns-clause-searched : goal.returns-clause-searched
returns-clause-searched g c =
    let s = c.args.self.now in
    end_searched _ (g.G.Graph.lawful s.graph.now) s.two c.loop-i.i (search rules) c.loop-i.invariant.0
