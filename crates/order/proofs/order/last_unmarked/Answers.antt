use Rattle.std.proofs.Common.{ℕ, None, not, ◌∙◌, rules, tests}
use Rattle.std.proofs.lemmas.Iterator.{YieldsList-from_map}
use Rattle.std.proofs.lemmas.Iterator.Consumers.{YieldsList-at, YieldsList-from_filter, YieldsList-from_first}
use Rattle.model.specs.Model.{Entry}
use Rattle.order.proofs.Lates.{last_of_run, last_far}
use Rattle.order.proofs.order.last_unmarked.Goals as goal

pub returns : goal.returns
returns g c =
    let row = (g.G.Graph.model c.args.graph.now).row c.args.direction c.args.a in
    let m = g.M.VisitMap.marked c.args.marks.now in
    let far : Entry → ℕ = λ e. e.2 in
    last_of_run c.last.result c.last.ensures.ran
    (YieldsList-from_filter _ (λ y. not (m y))
    (YieldsList-at c.filter.ensures.source (YieldsList-from_map _ far (YieldsList-from_first (λ x. x) (λ rest. rest) row (c.map.ensures.source ∙ c.new.ensures)) c.map.ensures.closure (λ x r q k. search rules)))
    c.filter.ensures.closure (λ x b q k. search (rules, tests)))
    ∙ last_far m row None
