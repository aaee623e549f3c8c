use Rattle.lowpoint.proofs.node_law.Goals as goal
use Rattle.lowpoint.proofs.Nodes.{node_law}

pub returns : goal.returns
returns c = node_law
