use Rattle.law.proofs.run_law.Goals as goal
use Rattle.law.proofs.Laws.{run_law}

pub returns : goal.returns
returns c = run_law
