use Rattle.std.proofs.Common.{◌<◌, get_or, set, refl, ap, ◌∙◌, arith}
use Rattle.model.specs.Sets.{in_bits}
use Rattle.model.proofs.Words.{bits_mask}
use Rattle.marks.proofs.Sets.{shifts_fit}
use Rattle.marks.proofs.words.WordMarks.clear_rest.Goals as goal

pub returns : goal.returns
returns c =
    let ws = c.args.self.now.words.now in
    let at = c.args.at in
    let fits : get_or ws at 0 < 18446744073709551616 = omega arith in
    record { bits = ap (λ x. in_bits 64 (set ws at x)) (shifts_fit (get_or ws at 0) c.args.rest fits) ∙ bits_mask ws at c.args.rest (omega arith); same = refl }
