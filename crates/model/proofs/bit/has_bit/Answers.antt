use Rattle.std.proofs.Common.{sym, ◌∙◌}
use Rattle.std.proofs.lemmas.Bool.{le-ltb}
use Rattle.model.proofs.Bits.{bit_past}
use Rattle.model.proofs.bit.has_bit.Goals as goal

pub returns-else-i-lt64 : goal.returns-else-i-lt64
returns-else-i-lt64 c = le-ltb c.args.i 64 c.if-i-lt64.false ∙ sym (bit_past c.args.word c.args.i c.if-i-lt64.false c.ranges.word.fits)
