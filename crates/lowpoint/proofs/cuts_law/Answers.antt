use Rattle.lowpoint.proofs.cuts_law.Goals as goal
use Rattle.lowpoint.proofs.Joins.{cuts_law}

pub returns : goal.returns
returns c = cuts_law
