use Rattle.std.proofs.Common.{ap, ◌∙◌, subst}
use Rattle.model.specs.Model.{Model}
use Rattle.order.specs.Right.{OrderRight}
use Rattle.order.proofs.Rights.{order_right}
use Rattle.order.proofs.order.order_nodes.Goals as goal

pub returns-clause-right : goal.returns-clause-right
returns-clause-right g c =
    let n = c.answer.ensures in
    let P : Model → Type 0 = λ m. OrderRight m c.answer.result c.answer.new.res in
    subst P (ap (λ b. g.G.Graph.model b.now) (c.search_all.ensures.same.graph ∙ c.new-search.ensures.graph)) (order_right (g.G.Graph.lawful c.search_all.new.self.graph.now) _ _ _ n.answer n.res)
