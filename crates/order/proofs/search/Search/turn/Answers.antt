use Rattle.std.proofs.Common.{sym, ◌∙◌}
use Rattle.order.proofs.Turns.{top_below, row_room, few, list_room, took_new, took_old}
use Rattle.order.proofs.search.Search.turn.Goals as goal

pub enter-requires : goal.enter-requires
enter-requires g c =
    let r = c.requires.ready in
    let h = row_room r c.requires.some (sym c.has_seen.ensures ∙ c.if-has_seen.false) in
    record { inside = top_below r c.requires.some; room = h.0; small = h.1 }

pub leave-requires : goal.leave-requires
leave-requires g c =
    let r = c.requires.ready in
    let h = c.requires.some in
    record { some = h; inside = top_below r h; room = list_room r h; small = few r h }

pub returns-then-has_seen : goal.returns-then-has_seen
returns-then-has_seen g c =
    let k = c.leave.ensures in
    let t = took_old c.requires.ready c.requires.some (sym c.has_seen.ensures ∙ c.if-has_seen.true) c.leave.new.self k in
    record { turn = t.turn_is; ready = t.again; same = k.same }

pub returns-else-has_seen : goal.returns-else-has_seen
returns-else-has_seen g c =
    let k = c.enter.ensures in
    let t = took_new c.requires.ready c.requires.some (sym c.has_seen.ensures ∙ c.if-has_seen.false) c.enter.new.self k in
    record { turn = t.turn_is; ready = t.again; same = k.same }
