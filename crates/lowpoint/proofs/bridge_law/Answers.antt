use Rattle.lowpoint.proofs.bridge_law.Goals as goal
use Rattle.lowpoint.proofs.Bridges.{bridge_law}

pub returns : goal.returns
returns c = bridge_law
