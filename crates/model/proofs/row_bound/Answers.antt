use Rattle.model.proofs.row_bound.Goals as goal
use Rattle.model.proofs.Bounds.{row_bound}

pub returns : goal.returns
returns c = row_bound
