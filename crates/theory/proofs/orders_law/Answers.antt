use Rattle.theory.proofs.orders_law.Goals as goal
use Rattle.theory.proofs.Models.{orders_law}

pub returns : goal.returns
returns c = orders_law
