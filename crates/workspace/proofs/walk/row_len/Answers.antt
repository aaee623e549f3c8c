use Rattle.std.proofs.Common.{length, inl, ap, arith}
use Rattle.model.specs.declared.Direction.TheVariants.{Outgoing}
use Rattle.model.proofs.Rows.{ascends_below}
use Rattle.workspace.proofs.walk.row_len.Goals as goal

pub count-requires-clause-fits : goal.count-requires-clause-fits
count-requires-clause-fits g c = let few = ascends_below 0 _ ((g.G.Graph.lawful c.args.graph.now).rows Outgoing c.args.a).ascends in inl (omega (arith, few, ap length c.new.ensures))

pub overflow_cast-result : goal.overflow_cast-result
overflow_cast-result g c = let few = ascends_below 0 _ ((g.G.Graph.lawful c.args.graph.now).rows Outgoing c.args.a).ascends in let b = c.count.ensures.bound in let e = ap length c.new.ensures in omega (arith, few, b, e)
