use Rattle.order.proofs.Outers.{looped_named, none_named}
use Rattle.order.proofs.search.Search.name_cycle.Goals as goal
use Rattle.order.proofs.search.Search.name_cycle.Goals.{then-is_some-via-then-is_some, then-is_some-via-else-is_some+then-not-self}

pub returns-then-is_some-clause-named : goal.returns-then-is_some-clause-named
returns-then-is_some-clause-named g c =
    elim c.then-is_some.branch [
      | then-is_some-via-then-is_some w ↦ looped_named c.requires w.if-is_some.ensures
      | then-is_some-via-else-is_some+then-not-self w ↦ none_named c.requires w.if-is_some.ensures w.if-not-self.true
    ]
