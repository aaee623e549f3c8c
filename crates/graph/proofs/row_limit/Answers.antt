use mathlib.Core.Path.{ap, ◌∙◌}
use native.Mathlib.Omega.{arith}
use Rattle.model.specs.Model.{row_limit}
use Rattle.model.proofs.Bounds.{row_bound}
use Rattle.graph.proofs.row_limit.Goals as goal

pub returns : goal.returns
returns g c =
    let m = g.G.Graph.model c.args.graph.now in
    let is = c.entries_most.ensures ∙ ap (λ k. row_limit k c.edge_bound.result) c.kind.ensures ∙ ap (row_limit m.kind) c.edge_bound.ensures in
    record { value = is; bound = λ d. omega (arith, row_bound m (g.G.Graph.lawful c.args.graph.now) d) }
