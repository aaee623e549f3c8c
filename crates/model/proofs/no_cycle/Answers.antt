use Rattle.model.proofs.no_cycle.Goals as goal
use Rattle.model.proofs.Orders.{no_cycle}

pub returns : goal.returns
returns c = no_cycle
