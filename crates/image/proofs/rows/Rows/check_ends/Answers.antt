use Rattle.std.proofs.Common.{◌*◌, ltb, sym, ◌∙◌, arith}
use Rattle.format.specs.Format.{word, tables}
use Rattle.format.proofs.Steps.{first_below}
use Rattle.image.proofs.rows.Rows.check_ends.Goals as goal

pub fault_at-requires-clause-inside : goal.fault_at-requires-clause-inside
fault_at-requires-clause-inside c = λ j e.
    let b = c.args.self.now.card.bytes.now in
    omega (arith, first_below (λ j. ltb ((tables b).end j) (word b 4)) (2 * word b 8) 0 j (sym c.find_bad_end.ensures ∙ e), c.args.self.now.room.ends)
