use Rattle.format.proofs.accepted_well_formed.Goals as goal
use Rattle.format.proofs.Formed.{same_images}

pub returns : goal.returns
returns c = same_images
