-- Sets of nodes: what `add` does, and what the nodes below N outside a set weigh. Assumes nothing.
use Rattle.std.proofs.Common.{◌≡◌, ℕ, zero, suc, ◌+◌, ◌<◌, ◌≤◌, true, false, cond, ◌⊎◌, refl, inl, inr, ⊎_elim, arith}
use Rattle.std.proofs.lemmas.Bool.Decides.{nat_tests}
use Rattle.std.proofs.lemmas.Bool.{cases_eq, cases_Bool, ne_eqb}
use Rattle.model.specs.Sets.{Set, add}
use Rattle.theory.specs.Walk.{left}

pub add_same : (m : Set) (x : ℕ) → add m x x ≡ true
add_same m x = grind (arith, nat_tests)

pub add_kept : (m : Set) (x y : ℕ) → m y ≡ true → add m x y ≡ true
add_kept m x y h = grind (arith, nat_tests)

pub add_cases : (m : Set) (x y : ℕ) → add m x y ≡ true → (y ≡ x) ⊎ (m y ≡ true)
add_cases m x y h = ⊎_elim (λ (e : y ≡ x). inl e) (λ (n : y ≡ x → ⊥). inr (rw (ne_eqb y x n) at h)) (cases_eq y x)

pub add_before : (m : Set) (x y : ℕ) → add m x y ≡ false → m y ≡ false
add_before m x y h = grind (arith, nat_tests)

left_above : (w : ℕ → ℕ) (m : Set) (x n : ℕ) → n ≤ x → left w (add m x) n ≡ left w m n
left_above w m x zero h = refl
left_above w m x (suc n) h =
    let e : add m x n ≡ m n = grind (arith, nat_tests) in
    let r = left_above w m x n (omega arith) in
    cc

-- a node that is added weighs no more
pub left_add : (w : ℕ → ℕ) (m : Set) (x n : ℕ) → x < n → m x ≡ false → left w m n ≡ w x + left w (add m x) n
left_add w m x zero h u = absurd (omega arith)
left_add w m x (suc n) h u = ⊎_elim same (other (λ l. left_add w m x n l u)) (cases_eq n x)
  where
    same : n ≡ x → left w m (suc n) ≡ w x + left w (add m x) (suc n)
    same e =
        let a : add m x n ≡ true = grind (arith, nat_tests) in
        let b : m n ≡ false = rw e u in
        let c = left_above w m x n (omega arith) in
        grind arith

    other : (x < n → left w m n ≡ w x + left w (add m x) n) → (n ≡ x → ⊥) → left w m (suc n) ≡ w x + left w (add m x) (suc n)
    other below d =
        let a : add m x n ≡ m n = grind (arith, nat_tests) in
        let r = below (omega arith) in
        grind arith

pub left_most : (m : Set) (n : ℕ) → left (λ _. 1) m n ≤ n
left_most m zero = omega arith
left_most m (suc n) =
    let h = left_most m n in
    let k : cond (m n) 0 1 ≤ 1 = grind arith in
    omega arith

pub left_less : (w : ℕ → ℕ) (m m₁ : Set) (n : ℕ) → ((y : ℕ) → m y ≡ true → m₁ y ≡ true) → left w m₁ n ≤ left w m n
left_less w m m₁ zero h = omega arith
left_less w m m₁ (suc n) h =
    let r = left_less w m m₁ n h in
    let k = h n in
    ⊎_elim
    (λ (e : m n ≡ true). let e₁ = h n e in grind arith)
    (λ (e : m n ≡ false). let e₁ : cond (m₁ n) 0 (w n) ≤ w n = grind arith in grind arith)
    (cases_Bool (m n))
