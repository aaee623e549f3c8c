use Rattle.theory.proofs.name_law.Goals as goal
use Rattle.theory.proofs.Names.{name_law}

pub returns : goal.returns
returns c = name_law
