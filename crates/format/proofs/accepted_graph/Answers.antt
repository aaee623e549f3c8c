use Rattle.format.proofs.accepted_graph.Goals as goal
use Rattle.format.proofs.Graphs.{accepted}

pub returns : goal.returns
returns c = accepted
