use Rattle.std.proofs.Common.{◌/◌, ◌%◌, ◌&&◌, ltb, get_or, set, refl, ap, ◌∙◌, arith}
use lib.Bits.{bit_xor}
use Rattle.std.proofs.lemmas.Nat.{one_shl, mod_below}
use Rattle.model.specs.Sets.{in_bits}
use Rattle.model.proofs.Words.{bits_remove, limit_remove}
use Rattle.marks.proofs.words.WordMarks.take_bit.Goals as goal

pub returns : goal.returns
returns c =
    let k = c.args.k in
    let ws = c.args.self.now.words.now in
    let one = one_shl (k % 64) 64 (mod_below k 64 (omega arith)) in
    let bits = ap (λ x. in_bits 64 (set ws (k / 64) (bit_xor (get_or ws (k / 64) 0) x))) one ∙ bits_remove ws k (omega arith) c.requires.1 in
    record { bits = bits; marks = ap (λ s j. ltb j c.args.self.now.limit && s j) bits ∙ limit_remove c.args.self.now.limit (in_bits 64 ws) k; same = refl }
