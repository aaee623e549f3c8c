use Rattle.model.proofs.path_present.Goals as goal
use Rattle.model.proofs.Models.{path_present}

pub returns : goal.returns
returns c = path_present
