-- Whole rows. Assumes nothing.
use Rattle.std.proofs.Common.{◌≡◌, ℕ, arith}
use Rattle.model.specs.declared.Direction.{Direction}
use Rattle.model.specs.Model.{Model, Lawful, from}
use Rattle.model.proofs.Rows.{from_low}

-- from place 0 on a row is whole
pub whole : {m : Model} → Lawful m → (d : Direction) (a : ℕ) → from (m.row d a) 0 ≡ m.row d a
whole w d a = from_low 0 0 _ (w.rows d a).ascends (omega arith)
