use Rattle.order.specs.Search.{Ready, Leads}
use Rattle.order.proofs.Settles.{to_do}
use Rattle.order.proofs.search.Search.seek.Given as goal

abbrev pub invariant-loop-self : goal.invariant-loop-self
invariant-loop-self g l = Leads l.initial.self l.self × Ready l.self

abbrev pub decreases-loop-self : goal.decreases-loop-self
decreases-loop-self g l = to_do l.self
