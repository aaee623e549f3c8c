use Rattle.std.proofs.Common.{◌+◌, sym, ◌∙◌, arith}
use Rattle.format.specs.Format.{word, tables, total}
use Rattle.format.specs.Faults.{start_ok}
use Rattle.format.proofs.Steps.{first_below}
use Rattle.image.proofs.rows.Rows.check_starts.Goals as goal

pub fault_at-requires-clause-inside : goal.fault_at-requires-clause-inside
fault_at-requires-clause-inside c = λ j e.
    let b = c.args.self.now.card.bytes.now in
    omega (arith, first_below (start_ok ((tables b).start c.args.direction) (word b 4) (total (tables b))) (word b 4 + 1) 0 j (sym c.find_bad_start.ensures ∙ e), c.args.self.now.room.starts c.args.direction, c.offsets-base.ensures)
