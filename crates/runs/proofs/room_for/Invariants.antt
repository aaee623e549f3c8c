use Rattle.std.proofs.Common.{◌≡◌, ◌+◌, ◌-◌, length, drop}
use Rattle.law.specs.Runs.{room_for}
use Rattle.runs.proofs.room_for.Given as goal

abbrev pub invariant-loop-i : goal.invariant-loop-i
invariant-loop-i l = l.i + room_for (drop l.i l.calls) (length l.answers - l.i) l.left ≡ room_for l.calls (length l.answers) (length l.results)
