-- What the tests of tables find. Assumes nothing.
use Rattle.std.proofs.Common.{◌≡◌, ℕ, zero, suc, ◌+◌, ◌-◌, ◌<◌, ◌≤◌, Bool, true, false, eqb, Some, None, Option, refl, ⊎_elim, arith}
use Rattle.std.proofs.lemmas.Bool.{cases_Bool}
use Rattle.model.specs.Model.{bit}
use Rattle.format.specs.Format.{Tables, tail_of, head_of, loops}
use Rattle.format.specs.Faults.{first, or_in, first_in}

-- where what is found lies
pub first_below : (ok : ℕ → Bool) (n i j : ℕ) → first ok i n ≡ Some j → j < i + n
first_below ok zero i j e = let z : ◌≡◌ {A = ℕ} 0 1 = cc in absurd (omega arith)
first_below ok (suc n) i j e =
    ⊎_elim
    (λ (y : ok i ≡ true). let r = first_below ok n (i + 1) j (rw y at e) in omega arith)
    (λ (y : ok i ≡ false). let q : Some i ≡ Some j = rw y at e in let z : i ≡ j = cc in omega arith)
    (cases_Bool (ok i))

pub rows_below : (ok : ℕ → ℕ → Bool) (s : ℕ → ℕ) (top n a j : ℕ) → ((c : ℕ) → c < a + n → s (c + 1) ≤ top) → ((c : ℕ) → c < a + n → s c ≤ s (c + 1)) → first_in ok s a n ≡ Some j → j < top
rows_below ok s top zero a j h u e = let z : ◌≡◌ {A = ℕ} 0 1 = cc in absurd (omega arith)
rows_below ok s top (suc n) a j h u e = go (first (ok a) (s a) (s (a + 1) - s a)) refl e (rows_below ok s top n (a + 1) j (λ c l. h c (omega arith)) (λ c l. u c (omega arith)))
  where
    go : (x : Option ℕ) → first (ok a) (s a) (s (a + 1) - s a) ≡ x → or_in x (first_in ok s (a + 1) n) ≡ Some j → (first_in ok s (a + 1) n ≡ Some j → j < top) → j < top
    go None q e r = r e
    go (Some i) q e r =
        let z : i ≡ j = cc in
        let k = first_below (ok a) (s (a + 1) - s a) (s a) i q in
        let m = h a (omega arith) in
        let v = u a (omega arith) in
        omega arith

pub loops_most : (t : Tables) (n e : ℕ) → loops t e n ≤ n
loops_most t zero e = omega arith
loops_most t (suc n) e =
    let r = loops_most t n (e + 1) in
    let k : bit (eqb (tail_of t e) (head_of t e)) ≤ 1 = elim (eqb (tail_of t e) (head_of t e)) as (λ b. bit b ≤ 1) [ true ↦ omega arith | false ↦ omega arith ] in
    omega arith
