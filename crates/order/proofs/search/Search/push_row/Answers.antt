use Rattle.std.proofs.Common.{◌∙◌, arith}
use Rattle.std.proofs.lemmas.Option.{MatchOption-at_some}
use Rattle.model.specs.Model.{Entry}
use Rattle.order.proofs.Pushes.{push_none, push_one, left_room}
use Rattle.order.proofs.search.Search.push_row.Goals as goal

pub loop-far-init : goal.loop-far-init
loop-far-init g c = push_none c.args.x c.into_iter-far-iterator.result (c.into_iter-far-iterator.ensures.into_iter_gives ∙ c.new-far-items.ensures) c.requires.room

pub push_far-requires : goal.push_far-requires
push_far-requires g c =
    let x : Entry = (c.in-Some.field-0-0, c.in-Some.field-0-1, c.in-Some.far) in
    let r = left_room x _ c.loop-far.invariant (MatchOption-at_some _ _ x c.in-Some.is c.next.ensures.steps) in
    record { inside = r.0; room = r.1; small = omega (arith, r.2, c.requires.small) }

pub loop-far-preserved : goal.loop-far-preserved
loop-far-preserved g c =
    let x : Entry = (c.in-Some.field-0-0, c.in-Some.field-0-1, c.in-Some.far) in
    let e = c.push_far.ensures in
    push_one x _ c.loop-far.invariant (MatchOption-at_some _ _ x c.in-Some.is c.next.ensures.steps) e.kept e.memory e.depth e.back e.looped
