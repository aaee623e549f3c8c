use Rattle.lowpoint.proofs.finds_law.Goals as goal
use Rattle.lowpoint.proofs.Finds.{finds_law}

pub returns : goal.returns
returns c = finds_law
