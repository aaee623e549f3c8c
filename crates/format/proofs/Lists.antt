-- A rising list of due numbers that is as long as it can be has them all. Assumes nothing.
use Rattle.std.proofs.Common.{◌≡◌, ℕ, zero, suc, ◌+◌, ◌<◌, ◌≤◌, Bool, true, false, cond, List, [], ◌∷◌, length, refl, ap, ⊎_elim, arith}
use Rattle.std.proofs.lemmas.Bool.{cases_eq, cases_Bool}
use Rattle.model.specs.Model.{bit}
use Rattle.format.specs.Format.{slice, listed}

-- strictly rising from lo on, below hi, each due
abbrev pub Rises : (ℕ → Bool) → ℕ → ℕ → List ℕ → Type 0
Rises due lo hi [] = Unit {0}
Rises due lo hi (x ∷ xs) = (lo ≤ x) × (x < hi) × (due x ≡ true) × Rises due (x + 1) hi xs

pub rises_from : (due : ℕ → Bool) (lo hi x : ℕ) (xs : List ℕ) → lo ≤ x → Rises due x hi xs → Rises due lo hi xs
rises_from due lo hi x [] h r = tt
rises_from due lo hi x (y ∷ ys) h r = (omega (arith, r.0), r.1, r.2, r.3)

pub listed_more : (due : ℕ → Bool) (lo n : ℕ) → length (listed due lo (suc n)) ≡ bit (due lo) + length (listed due (lo + 1) n)
listed_more due lo n = elim (due lo) as (λ b. length (cond b (lo ∷ listed due (lo + 1) n) (listed due (lo + 1) n)) ≡ bit b + length (listed due (lo + 1) n)) [ true ↦ omega arith | false ↦ omega arith ]

module _ (due : ℕ → Bool) (hi : ℕ) where
  pub rises_short : (n lo : ℕ) (xs : List ℕ) → hi ≡ lo + n → Rises due lo hi xs → length xs ≤ length (listed due lo n)
  rises_short n lo [] e r = omega arith
  rises_short zero lo (x ∷ xs) e r = absurd (omega (arith, r.0, r.1))
  rises_short (suc n) lo (x ∷ xs) e r =
      let m = listed_more due lo n in
      ⊎_elim
      (λ (q : x ≡ lo).
      let s = rises_short n (lo + 1) xs (omega arith) (rw q at r.3) in
      let d : bit (due lo) ≡ 1 = ap bit (rw q at r.2) in
      omega arith)
      (λ (d : x ≡ lo → ⊥).
      let s = rises_short n (lo + 1) (x ∷ xs) (omega arith) (omega (arith, r.0), r.1, r.2, r.3) in
      omega arith)
      (cases_eq x lo)

  pub rises_same : (n lo : ℕ) (xs : List ℕ) → hi ≡ lo + n → Rises due lo hi xs → length xs ≡ length (listed due lo n) → xs ≡ listed due lo n
  rises_same zero lo [] e r l = refl
  rises_same zero lo (x ∷ xs) e r l = absurd (omega arith)
  rises_same (suc n) lo [] e r l = elim (listed due lo (suc n)) as (λ ys. 0 ≡ length ys → [] ≡ ys) [ [] ↦ λ _. refl | ◌∷◌ y ys ↦ λ h. absurd (omega arith) ] l
  rises_same (suc n) lo (x ∷ xs) e r l =
      let m = listed_more due lo n in
      ⊎_elim
      (λ (q : x ≡ lo).
      let d : due lo ≡ true = rw q at r.2 in
      let b : bit (due lo) ≡ 1 = ap bit d in
      let s = rises_same n (lo + 1) xs (omega arith) (rw q at r.3) (omega arith) in
      cc)
      (λ (d : x ≡ lo → ⊥).
      let up : Rises due (lo + 1) hi (x ∷ xs) = (omega (arith, r.0), r.1, r.2, r.3) in
      let s = rises_short n (lo + 1) (x ∷ xs) (omega arith) up in
      ⊎_elim
      (λ (y : due lo ≡ true). let b : bit (due lo) ≡ 1 = ap bit y in absurd (omega arith))
      (λ (y : due lo ≡ false). let b : bit (due lo) ≡ 0 = ap bit y in let z = rises_same n (lo + 1) (x ∷ xs) (omega arith) up (omega arith) in cc)
      (cases_Bool (due lo)))
      (cases_eq x lo)

pub listed_most : (due : ℕ → Bool) (lo n : ℕ) → length (listed due lo n) ≤ n
listed_most due lo zero = omega arith
listed_most due lo (suc n) =
    let m = listed_more due lo n in
    let r = listed_most due (lo + 1) n in
    let k : bit (due lo) ≤ 1 = elim (due lo) as (λ b. bit b ≤ 1) [ true ↦ omega arith | false ↦ omega arith ] in
    omega arith

pub slice_length : (x : ℕ → ℕ) (i n : ℕ) → length (slice x i n) ≡ n
slice_length x i zero = refl
slice_length x i (suc n) = ap suc (slice_length x (i + 1) n)

-- the list itself rises
pub listed_rises : (due : ℕ → Bool) (n lo : ℕ) → Rises due lo (lo + n) (listed due lo n)
listed_rises due zero lo = tt
listed_rises due (suc n) lo =
    let e : lo + 1 + n ≡ lo + suc n = omega arith in
    let r = rw e at (listed_rises due n (lo + 1)) in
    ⊎_elim
    (λ (y : due lo ≡ true). rw y (omega arith, omega arith, y, r))
    (λ (y : due lo ≡ false). rw y (rises_from due lo (lo + suc n) (lo + 1) (listed due (lo + 1) n) (omega arith) r))
    (cases_Bool (due lo))
