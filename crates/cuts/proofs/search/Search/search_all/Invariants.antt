use Rattle.lowpoint.specs.Steps.{Between}
use Rattle.cuts.specs.Shape.{model, memory, Keeps}
use Rattle.cuts.proofs.search.Search.search_all.Given as goal

abbrev pub invariant-loop-i : goal.invariant-loop-i
invariant-loop-i g l = Between (model l.initial.self) l.i (memory l.self) × Keeps l.initial.self l.self
