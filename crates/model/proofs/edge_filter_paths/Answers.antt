use Rattle.model.proofs.edge_filter_paths.Goals as goal
use Rattle.model.proofs.Piles.{edge_paths}

pub returns : goal.returns
returns c = edge_paths
