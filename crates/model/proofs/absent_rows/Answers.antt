use Rattle.model.proofs.absent_rows.Goals as goal
use Rattle.model.proofs.Models.{absent_rows}

pub returns : goal.returns
returns c = absent_rows
