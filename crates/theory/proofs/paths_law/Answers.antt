use Rattle.theory.proofs.paths_law.Goals as goal
use Rattle.theory.proofs.Models.{paths_law}

pub returns : goal.returns
returns c = paths_law
