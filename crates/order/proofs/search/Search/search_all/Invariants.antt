use Rattle.order.specs.Search.{Same, Between}
use Rattle.order.proofs.search.Search.search_all.Given as goal

abbrev pub invariant-loop-i : goal.invariant-loop-i
invariant-loop-i g l = Between l.i l.self × Same l.initial.self l.self
