use Rattle.order.proofs.Lates.{Checking}
use Rattle.order.proofs.search.Search.find_late.Given as goal

abbrev pub invariant-loop-k : goal.invariant-loop-k
invariant-loop-k g l = Checking l.initial.self l.self l.k
