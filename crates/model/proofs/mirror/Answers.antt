use Rattle.model.proofs.mirror.Goals as goal
use Rattle.model.proofs.Models.{mirrored}

pub returns : goal.returns
returns c = mirrored
