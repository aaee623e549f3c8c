use Rattle.model.proofs.node_filter_paths.Goals as goal
use Rattle.model.proofs.Piles.{node_paths}

pub returns : goal.returns
returns c = node_paths
