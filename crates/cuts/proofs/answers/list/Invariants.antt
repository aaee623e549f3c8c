use Rattle.lowpoint.proofs.Listings.{Listing}
use Rattle.cuts.proofs.answers.list.Given as goal

abbrev pub invariant-loop-k : goal.invariant-loop-k
invariant-loop-k g l = Listing (g.L.Listed.wanted (g.G.Graph.model l.found.graph.now)) l.k l.count l.res l.initial.res
