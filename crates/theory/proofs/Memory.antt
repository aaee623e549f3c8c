-- Lent memory as a stack. Assumes nothing.
use Rattle.std.proofs.Common.{◌≡◌, ℕ, zero, suc, ◌+◌, ◌-◌, ◌<◌, ◌≤◌, List, ◌∷◌, length, get_or, set, refl, arith}
use Rattle.std.proofs.lemmas.List.{get_or-set_same, get_or-set_other}
use Rattle.theory.specs.Memory.{down}

pub down_length : (mem : List ℕ) (d : ℕ) → length (down mem d) ≡ d
down_length mem zero = refl
down_length mem (suc d) = let r = down_length mem d in omega arith

pub down_more : (mem : List ℕ) (d : ℕ) → 0 < d → down mem d ≡ get_or mem (d - 1) 0 ∷ down mem (d - 1)
down_more mem zero h = absurd (omega arith)
down_more mem (suc d) h = let e : suc d - 1 ≡ d = omega arith in rw e

pub down_plus : (mem : List ℕ) (d : ℕ) → down mem (d + 1) ≡ get_or mem d 0 ∷ down mem d
down_plus mem d = let e : d + 1 ≡ suc d = omega arith in rw e

-- a write at or above the depth is not seen
pub down_set : (mem : List ℕ) (i x d : ℕ) → d ≤ i → down (set mem i x) d ≡ down mem d
down_set mem i x zero h = refl
down_set mem i x (suc d) h =
    let r = down_set mem i x d (omega arith) in
    let n : d ≡ i → ⊥ = λ e. omega arith in
    let g = get_or-set_other mem i d x 0 n in
    cc

pub down_push : (mem : List ℕ) (d x : ℕ) → d < length mem → down (set mem d x) (d + 1) ≡ x ∷ down mem d
down_push mem d x h =
    let a = down_plus (set mem d x) d in
    let b = down_set mem d x d (omega arith) in
    let c = get_or-set_same mem d x 0 h in
    cc
