use Rattle.std.proofs.Common.{length, arith}
use Rattle.law.proofs.Prefixes.{stop_end}
use Rattle.runs.proofs.room_for.Goals as goal

pub returns : goal.returns
returns c =
    let l = c.loop-i in
    omega (arith, l.invariant, stop_end c.args.calls.now l.i (length c.args.answers.now) l.left (omega (arith, l.auto.i-end, c.min-end.ensures)))
