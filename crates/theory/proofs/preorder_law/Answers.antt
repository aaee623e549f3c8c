use Rattle.theory.proofs.preorder_law.Goals as goal
use Rattle.theory.proofs.Orders.{preorder_law}

pub returns : goal.returns
returns c = preorder_law
