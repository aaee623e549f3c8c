use Rattle.theory.proofs.track_law.Goals as goal
use Rattle.theory.proofs.Loops.{track_law}

pub returns : goal.returns
returns c = track_law
