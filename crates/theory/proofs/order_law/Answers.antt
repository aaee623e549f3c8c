use Rattle.theory.proofs.order_law.Goals as goal
use Rattle.theory.proofs.Forwards.{order_law}

pub returns : goal.returns
returns c = order_law
