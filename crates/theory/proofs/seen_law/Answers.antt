use Rattle.theory.proofs.seen_law.Goals as goal
use Rattle.theory.proofs.Loops.{seen_law}

pub returns : goal.returns
returns c = seen_law
