-- Lent memory as a stack.
use Rattle.std.specs.Prelude.{ℕ, zero, suc, List, [], ◌∷◌, slice_index}

-- the first d entries of memory, the last of them first
abbrev pub down : List ℕ → ℕ → List ℕ
down mem zero = []
down mem (suc d) = slice_index mem d ∷ down mem d
