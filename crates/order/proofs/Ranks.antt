-- Ranks of finished nodes. Assumes nothing.
use Rattle.std.proofs.Common.{◌≡◌, ℕ, suc, ◌<◌, true, false, eqb, List, [], ◌∷◌, length, refl, ⊎_elim, arith}
use Rattle.std.proofs.lemmas.Bool.{cases_eq, eq-eqb, ne_eqb, cond-true}
use Rattle.theory.specs.Order.{member}
use Rattle.order.specs.Search.{rank}

pub rank_none : (l : List ℕ) (x : ℕ) → rank l x ≡ 0 → member x l ≡ false
rank_none [] x h = refl
rank_none (y ∷ l) x h =
    ⊎_elim
    (λ (e : x ≡ y). absurd (let q = eq-eqb x y e in let k = cond-true (eqb x y) (suc (length l)) (rank l x) q in omega arith))
    (λ (n : x ≡ y → ⊥). let q = ne_eqb x y n in rw q (rank_none l x (rw q at h)))
    (cases_eq x y)

pub rank_some : (l : List ℕ) (x : ℕ) → 0 < rank l x → member x l ≡ true
rank_some [] x h = absurd (omega arith)
rank_some (y ∷ l) x h =
    ⊎_elim
    (λ (e : x ≡ y). rw (eq-eqb x y e))
    (λ (n : x ≡ y → ⊥). let q = ne_eqb x y n in rw q (rank_some l x (rw q at h)))
    (cases_eq x y)
