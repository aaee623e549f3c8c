use Rattle.std.proofs.Common.{length, ap, arith}
use Rattle.model.proofs.Rows.{next_asked}
use Rattle.graph.proofs.row.step.Goals as goal

pub overflow_add-result : goal.overflow_add-result
overflow_add-result g c = let n = next_asked (g.G.Graph.lawful c.args.graph.now) c.row_entry.ensures c.in_ok-entry.was in omega (arith, n.below)

pub returns-clause-splits : goal.returns-clause-splits
returns-clause-splits g c = (next_asked (g.G.Graph.lawful c.args.graph.now) c.row_entry.ensures c.in_ok-entry.was).split

pub returns-clause-shrinks : goal.returns-clause-shrinks
returns-clause-shrinks g c = let fewer = ap length (next_asked (g.G.Graph.lawful c.args.graph.now) c.row_entry.ensures c.in_ok-entry.was).split in omega (arith, fewer)
