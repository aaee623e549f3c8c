use Rattle.std.proofs.Common.{length-drop, add_assoc, arith}
use Rattle.std.proofs.lemmas.List.{take_rest, get_or-drop}
use Rattle.format.specs.Format.{word}
use Rattle.image.proofs.header.take_number.Goals as goal

pub returns : goal.returns
unfolding word
returns c = (simp (take_rest, length-drop) (omega arith), c.from_le_bytes.ensures, λ k. simp (take_rest, get_or-drop, add_assoc))
