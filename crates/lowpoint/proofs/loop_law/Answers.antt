use Rattle.lowpoint.proofs.loop_law.Goals as goal
use Rattle.lowpoint.proofs.Loops.{loop_law}

pub returns : goal.returns
returns c = loop_law
