use Rattle.std.proofs.Common.{ap, ◌∙◌}
use Rattle.lowpoint.specs.Steps.{stepped}
use Rattle.lowpoint.proofs.Steps.{leads_more, ready_more, step_falls}
use Rattle.cuts.specs.Shape.{memory}
use Rattle.cuts.proofs.Keeping.{keeps_on}
use Rattle.cuts.proofs.search.Search.settle.Goals as goal

pub loop-self-smaller : goal.loop-self-smaller
loop-self-smaller g c =
    let i = c.loop-self.invariant in
    let e = c.step.ensures.memory ∙ ap (λ m. stepped m (memory c.loop-self.self)) i.2.graph in
    step_falls (g.G.Graph.lawful c.args.self.now.graph.now) c.loop-self-test.true e i.1

pub loop-self-preserved : goal.loop-self-preserved
loop-self-preserved g c =
    let i = c.loop-self.invariant in
    let w = g.G.Graph.lawful c.args.self.now.graph.now in
    let h = c.loop-self-test.true in
    let e = c.step.ensures.memory ∙ ap (λ m. stepped m (memory c.loop-self.self)) i.2.graph in
    (leads_more w h e i.0, ready_more w h e i.1, keeps_on i.2 c.step.ensures.keeps)
