use Rattle.order.proofs.Outers.{new_parts, skipped, settled}
use Rattle.order.proofs.search.Search.search_from.Goals as goal

pub returns-then-is_new-clause-between : goal.returns-then-is_new-clause-between
returns-then-is_new-clause-between g c =
    let s = c.begin.ensures in
    let e = c.settle.ensures in
    settled c.requires.between c.requires.inside (new_parts _ _ c.if-is_new.ensures).0 s.alone s.same e.turns e.ready e.empty

pub returns-else-is_new-clause-between : goal.returns-else-is_new-clause-between
returns-else-is_new-clause-between g c = skipped c.requires.between c.requires.inside c.if-is_new.ensures
