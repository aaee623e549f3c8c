use Rattle.model.proofs.reversed_twice.Goals as goal
use Rattle.model.proofs.Piles.{reversed_twice}

pub returns : goal.returns
returns c = reversed_twice
