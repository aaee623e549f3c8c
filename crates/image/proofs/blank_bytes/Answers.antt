use Rattle.std.proofs.Common.{rules}
use Rattle.format.specs.Format.{word}
use Rattle.image.proofs.blank_bytes.Goals as goal

pub returns : goal.returns
unfolding word
returns c = search rules
