-- What a search leaves alone, over several calls.
use Rattle.std.proofs.Common.{◌∙◌}
use Rattle.graph.specs.declared.Graph as graph
use Rattle.marks.specs.declared.VisitMap as marks
use Rattle.cuts.specs.declared.search.Search.{Search}
use Rattle.cuts.specs.Shape.{Keeps}

pub keeps_on : {G M : Type 0} {g : graph.Ghosts G} {k : marks.Ghosts M} {a b c : Search G M g k} → Keeps a b → Keeps b c → Keeps a c
keeps_on p q =
    record {
      graph = q.graph ∙ p.graph;
      arrivals = q.arrivals ∙ p.arrivals;
      marks = q.marks ∙ p.marks;
      limit = q.limit ∙ p.limit;
    }
