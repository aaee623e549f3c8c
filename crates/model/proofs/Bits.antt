-- Bits of numbers. Assumes nothing.
use Rattle.std.proofs.Common.{◌≡◌, ℕ, zero, suc, ◌%◌, ◌^◌, ◌<◌, ◌≤◌, false, eqb, List, [], ◌∷◌, length, get_or, refl, ap, arith}
use native.Mathlib.Nat.{div-eq_of_lt}
use Rattle.std.proofs.Math.Pow.{pow_mono}
use Rattle.model.specs.Sets.{bit_at}

-- past bit 63 a number of 64 bits has none
pub bit_past : (w i : ℕ) → 64 ≤ i → w < 18446744073709551616 → bit_at w i ≡ false
bit_past w i h f = let l = pow_mono {i = 64} {j = i} h in ap (λ x. eqb (x % 2) 1) (div-eq_of_lt {n = w} {m = 2 ^ i} (omega (arith, l)))

-- past its end a list has the number that stands for none
pub get_d_past : (ws : List ℕ) (i : ℕ) → length ws ≤ i → get_or ws i 0 ≡ 0
get_d_past [] i h = refl
get_d_past (w ∷ ws) zero h = absurd (omega arith)
get_d_past (w ∷ ws) (suc i) h = get_d_past ws i (omega arith)
