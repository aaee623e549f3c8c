use Rattle.std.proofs.Common.{ℕ, ◌<◌, refl, sym, ap, ◌∙◌, subst}
use Rattle.std.specs.Prelude.{All}
use Rattle.std.proofs.lemmas.List.Elements.{All-head, All-tail}
use Rattle.model.specs.Model.{Entry}
use Rattle.lowpoint.specs.Steps.{looked}
use Rattle.lowpoint.proofs.Steps.{rest_below, met_old}
use Rattle.cuts.specs.Shape.{model}
use Rattle.cuts.proofs.search.Search.look_on.Goals as goal

abbrev Below : ℕ → Entry → Type 0
Below n q = q.2 < n

pub loop-place-init : goal.loop-place-init
loop-place-init g c =
    let s = c.args.self.now in
    rw (c.into_iter-place-iterator.ensures.into_iter_gives, c.starting_at-place-items.ensures)
    (rest_below (g.G.Graph.lawful s.graph.now) c.args.x _, refl)

pub meet-requires : goal.meet-requires
meet-requires g c =
    let P = Below (model c.args.self.now).nodes in
    All-head P (c.in-Some.place, c.in-Some.edge, c.in-Some.far) c.next.new.self (subst (All P) c.in-Some.ensures.steps c.loop-place.invariant.0)

pub loop-place-preserved : goal.loop-place-preserved
loop-place-preserved g c =
    let s = c.args.self.now in
    let q : Entry = (c.in-Some.place, c.in-Some.edge, c.in-Some.far) in
    let e = c.in-Some.ensures.steps in
    let P = Below (model s).nodes in
    let same = met_old s.numbers.now _ c.loop-place.low q c.next.new.self c.in-Some-meet.lower c.in-Some-meet.ensures in
    (All-tail P q c.next.new.self (subst (All P) e c.loop-place.invariant.0), sym (ap (looked s.numbers.now _ c.loop-place.low) e ∙ same) ∙ c.loop-place.invariant.1)
