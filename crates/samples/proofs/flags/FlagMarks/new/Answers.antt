use Rattle.std.proofs.Common.{sym, arith}
use Rattle.std.proofs.lemmas.List.{take_all}
use Rattle.samples.proofs.flags.FlagMarks.new.Goals as goal

pub returns : goal.returns
returns c = sym (take_all 4294967295 c.args.flags.now (omega arith))
