use Rattle.std.proofs.Common.{sym, ◌∙◌, arith}
use Rattle.format.specs.Format.{tables}
use Rattle.format.proofs.Passed.{entry_below}
use Rattle.std.proofs.option.Match.{None-if_not_some}
use Rattle.image.proofs.started.Started.check_entries.Goals as goal

pub fault_at-requires-clause-inside : goal.fault_at-requires-clause-inside
fault_at-requires-clause-inside c = λ i e.
    let s = c.args.self.now in
    omega (arith, entry_below (tables s.rows.card.bytes.now) s.direction i (None-if_not_some _ s.passed) (sym c.find_bad_entry.ensures ∙ e), s.rows.room.entries s.direction, c.offsets-base.ensures)
