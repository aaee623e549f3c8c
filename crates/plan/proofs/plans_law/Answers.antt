use Rattle.plan.proofs.Waiting.{plans_law}
use Rattle.plan.proofs.plans_law.Goals as goal

pub returns : goal.returns
returns c = plans_law
