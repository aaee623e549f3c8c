-- Why there is no plan.
use Rattle.std.specs.Prelude.{ℕ, Some, None, Option}
use Rattle.image.specs.Told.{told}
use Rattle.workspace.specs.Refusals.{number_of}
use Rattle.plan.specs.declared.fault.PlanFault.{PlanFault}
use Rattle.plan.specs.declared.fault.PlanFault.TheVariants.{Image, Memory}

-- the number of the fault that is wrapped
abbrev pub plan_number : PlanFault → ℕ
plan_number (Image f) = (told f).0
plan_number (Memory k) = number_of k

-- the byte offset, where the image is at fault
abbrev pub plan_offset : PlanFault → Option ℕ
plan_offset (Image f) = Some (told f).1
plan_offset (Memory k) = None
