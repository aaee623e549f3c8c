use Rattle.order.proofs.Settles.{leads_more, falls}
use Rattle.order.proofs.search.Search.settle.Goals as goal

pub loop-self-smaller : goal.loop-self-smaller
loop-self-smaller g c = let e = c.turn.ensures in falls c.turn.new.self c.loop-self.invariant.1 c.loop-self-test.true e.turn e.same.graph

pub loop-self-preserved : goal.loop-self-preserved
loop-self-preserved g c = let e = c.turn.ensures in (leads_more c.loop-self.invariant.0 e.turn e.same, e.ready)
