use Rattle.std.proofs.Common.{arith}
use Rattle.format.specs.Format.{word, tables}
use Rattle.format.proofs.Steps.{loops_most}
use Rattle.image.proofs.card.Card.count_due.Goals as goal

pub overflow_sub-result : goal.overflow_sub-result
overflow_sub-result c = let b = c.args.self.now.bytes.now in omega (arith, loops_most (tables b) (word b 8) 0, c.count_loops.ensures)
