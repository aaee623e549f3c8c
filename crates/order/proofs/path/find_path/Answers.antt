use Rattle.std.proofs.Common.{ap, ◌∙◌}
use Rattle.theory.specs.Models.{joined}
use Rattle.order.proofs.Outers.{only_found}
use Rattle.order.proofs.Rights.{path_right}
use Rattle.order.proofs.path.find_path.Goals as goal

pub returns-clause-answer : goal.returns-clause-answer
returns-clause-answer g c =
    let n = c.new-search.ensures in
    let here = ap (λ b. (g.G.Graph.model b.now).present c.args.a) n.graph ∙ c.requires.here in
    only_found n.begun c.args.a here c.begin.ensures.alone c.begin.ensures.same c.args.b c.seek.result c.seek.ensures.sought ∙ ap (λ b. joined (g.G.Graph.model b.now) c.args.a c.args.b) n.graph

pub returns-clause-right : goal.returns-clause-right
returns-clause-right g c = path_right (g.G.Graph.lawful c.args.graph.now) _ _ _ c.requires.here (returns-clause-answer g c)
