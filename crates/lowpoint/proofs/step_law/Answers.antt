use Rattle.lowpoint.proofs.step_law.Goals as goal
use Rattle.lowpoint.proofs.Steps.{step_law}

pub returns : goal.returns
returns c = step_law
