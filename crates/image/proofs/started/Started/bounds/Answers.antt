use Rattle.std.proofs.Common.{◌+◌, arith}
use Rattle.format.specs.Format.{tables}
use Rattle.format.proofs.Passed.{start_most}
use Rattle.std.proofs.option.Match.{None-if_not_some}
use Rattle.image.proofs.started.Started.bounds.Goals as goal

pub returns : goal.returns
returns c =
    let s = c.args.self.now in
    (omega arith, omega arith, omega (arith, start_most (tables s.rows.card.bytes.now) s.direction (None-if_not_some _ s.passed) (c.args.a + 1) (omega arith)))
