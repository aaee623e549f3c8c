use Rattle.model.proofs.views_lawful.Goals as goal
use Rattle.model.proofs.Views.{views_lawful}

pub returns : goal.returns
returns c = views_lawful
