use Rattle.model.proofs.whole_filters.Goals as goal
use Rattle.model.proofs.Piles.{whole_filters}

pub returns : goal.returns
returns c = whole_filters
