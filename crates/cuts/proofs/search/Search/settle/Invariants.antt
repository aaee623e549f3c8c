use Rattle.lowpoint.specs.Steps.{Ready, LeadsTo, weight}
use Rattle.cuts.specs.Shape.{model, memory, Keeps}
use Rattle.cuts.proofs.search.Search.settle.Given as goal

abbrev pub invariant-loop-self : goal.invariant-loop-self
invariant-loop-self g l =
    let s = l.initial.self in
    LeadsTo (model s) (memory s) (memory l.self) × Ready (model s) (memory l.self) × Keeps s l.self

abbrev pub decreases-loop-self : goal.decreases-loop-self
decreases-loop-self g l = weight (model l.initial.self) (memory l.self)
