use Rattle.std.proofs.Common.{arith}
use Rattle.format.specs.Format.{tables}
use Rattle.format.proofs.Graphs.{no_fault, span_of, row_past, read_inside, read_known, read_due, read_found}
use Rattle.image.proofs.ImageGraph.row_entry.Goals as goal

pub overflow_sub-high : goal.overflow_sub-high
overflow_sub-high c =
    let b = c.args.self.now.rows.card.bytes.now in
    omega (arith, (span_of b (no_fault b c.args.self.now.accepted) c.args.direction c.args.a (omega arith)).up, c.start_at-low.ensures, c.start_at-high.ensures)

pub returns-then-place-high : goal.returns-then-place-high
returns-then-place-high c = row_past (tables c.args.self.now.rows.card.bytes.now) c.args.direction c.args.a c.args.place (omega arith) (omega arith)

pub entry_in_row-e-requires : goal.entry_in_row-e-requires
entry_in_row-e-requires c =
    let b = c.args.self.now.rows.card.bytes.now in
    read_inside b (no_fault b c.args.self.now.accepted) c.args.direction c.args.a c.args.place c.start_at-low.result c.start_at-high.result 0 (omega arith) c.start_at-low.ensures c.start_at-high.ensures c.if-place-high.false

pub far_at-requires : goal.far_at-requires
far_at-requires c =
    let b = c.args.self.now.rows.card.bytes.now in
    record {
      known = read_known b (no_fault b c.args.self.now.accepted) c.args.direction c.args.a c.args.place c.start_at-low.result c.start_at-high.result c.entry_in_row-e.result (omega arith) c.start_at-low.ensures c.start_at-high.ensures c.if-place-high.false c.entry_in_row-e.ensures;
      due = read_due b (no_fault b c.args.self.now.accepted) c.args.direction c.args.a c.args.place c.start_at-low.result c.start_at-high.result c.entry_in_row-e.result (omega arith) c.start_at-low.ensures c.start_at-high.ensures c.if-place-high.false c.entry_in_row-e.ensures;
    }

pub returns : goal.returns
returns c =
    let b = c.args.self.now.rows.card.bytes.now in
    read_found b (no_fault b c.args.self.now.accepted) c.args.direction c.args.a c.args.place c.start_at-low.result c.start_at-high.result c.entry_in_row-e.result (omega arith) c.start_at-low.ensures c.start_at-high.ensures c.if-place-high.false c.far_at.result c.entry_in_row-e.ensures c.far_at.ensures
