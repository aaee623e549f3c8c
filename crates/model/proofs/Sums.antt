-- Sums of a function over the numbers below n. Assumes nothing.
use Rattle.std.proofs.Common.{◌≡◌, ℕ, zero, suc, ◌+◌, ◌-◌, ◌*◌, ◌<◌, ◌≤◌, Bool, true, false, cond, ◌||◌, eqb, sym, refl, ap, ⊎_elim, add-one, arith}
use Rattle.std.proofs.lemmas.Bool.Decides.{nat_tests}
use Rattle.std.proofs.lemmas.Bool.{cases_eq, cases_lt, eq-eqb, ne_eqb}
use Rattle.model.specs.Model.{bit, sum}

pub sum_add : (f g h : ℕ → ℕ) (n : ℕ) → ((i : ℕ) → i < n → h i ≡ f i + g i) → sum h n ≡ sum f n + sum g n
sum_add f g h zero e = refl
sum_add f g h (suc n) e = let r = sum_add f g h n (λ i l. e i (omega arith)) in let k = e n (omega arith) in omega arith

pub sum_same : (f g : ℕ → ℕ) (n : ℕ) → ((i : ℕ) → i < n → f i ≡ g i) → sum f n ≡ sum g n
sum_same f g zero e = refl
sum_same f g (suc n) e = let r = sum_same f g n (λ i l. e i (omega arith)) in let k = e n (omega arith) in omega arith

pub sum_most : (f g : ℕ → ℕ) (n : ℕ) → ((i : ℕ) → i < n → f i ≤ g i) → sum f n ≤ sum g n
sum_most f g zero e = omega arith
sum_most f g (suc n) e = let r = sum_most f g n (λ i l. e i (omega arith)) in let k = e n (omega arith) in omega arith

pub sum_none : (n : ℕ) → sum (λ _. 0) n ≡ 0
sum_none zero = refl
sum_none (suc n) = let r = sum_none n in omega arith

-- the same term n times
pub sum_one : (n : ℕ) → sum (λ _. 1) n ≡ n
sum_one zero = refl
sum_one (suc n) = let r = sum_one n in omega arith

pub sum_two : (n : ℕ) → sum (λ _. 2) n ≡ 2 * n
sum_two zero = refl
sum_two (suc n) = let r = sum_two n in omega arith

-- the order of two sums does not matter
pub sum_swap : (f : ℕ → ℕ → ℕ) (n k : ℕ) → sum (λ a. sum (f a) k) n ≡ sum (λ e. sum (λ a. f a e) n) k
sum_swap f zero k = sym (sum_none k)
sum_swap f (suc n) k =
    let r = sum_swap f n k in
    let s = sum_add (f n) (λ e. sum (λ a. f a e) n) (λ e. f n e + sum (λ a. f a e) n) k (λ _ _. refl) in
    omega arith

-- no term is above its bound and the sums agree: so each term is its bound
pub sum_tight : (f g : ℕ → ℕ) (n : ℕ) → ((i : ℕ) → i < n → f i ≤ g i) → sum f n ≡ sum g n → (i : ℕ) → i < n → f i ≡ g i
sum_tight f g zero e s i l = absurd (omega arith)
sum_tight f g (suc n) e s i l =
    let below : (i : ℕ) → i < n → f i ≤ g i = λ i l. e i (omega arith) in
    let r = sum_most f g n below in
    let k = e n (omega arith) in
    ⊎_elim
    (λ (q : i ≡ n). let z : f n ≡ g n = omega arith in rw q z)
    (λ (d : i ≡ n → ⊥). sum_tight f g n below (omega arith) i (omega arith))
    (cases_eq i n)

-- what a rising sequence climbs
pub sum_climb : (s : ℕ → ℕ) (n : ℕ) → ((i : ℕ) → i < n → s i ≤ s (i + 1)) → sum (λ i. s (i + 1) - s i) n + s 0 ≡ s n
sum_climb s zero e = omega arith
sum_climb s (suc n) e =
    let r = sum_climb s n (λ i l. e i (omega arith)) in
    let k = e n (omega arith) in
    let q : s (n + 1) ≡ s (suc n) = ap s (add-one n) in
    omega arith

-- one number is hit once if it is below n, else never
pub sum_past : (u n : ℕ) → n ≤ u → sum (λ a. bit (eqb u a)) n ≡ 0
sum_past u zero h = refl
sum_past u (suc n) h = let r = sum_past u n (omega arith) in let q = ne_eqb u n (λ e. omega arith) in rw q (omega arith)

pub sum_hit : (u n : ℕ) → u < n → sum (λ a. bit (eqb u a)) n ≡ 1
sum_hit u zero h = absurd (omega arith)
sum_hit u (suc n) h =
    ⊎_elim
    (λ (e : u ≡ n). let r = sum_past u n (omega arith) in let q = eq-eqb u n e in rw q (omega arith))
    (λ (d : u ≡ n → ⊥). let r = sum_hit u n (omega arith) in let q = ne_eqb u n d in rw q (omega arith))
    (cases_eq u n)

pub sum_once : (u n : ℕ) → sum (λ a. bit (eqb u a)) n ≤ 1
sum_once u n =
    ⊎_elim
    (λ (l : u < n). omega (arith, sum_hit u n l))
    (λ (l : n ≤ u). omega (arith, sum_past u n l))
    (cases_lt u n)

-- two ends: one hit if they are equal, else two
pub sum_ends : (u v n : ℕ) → u < n → v < n → sum (λ a. bit (eqb u a || eqb v a)) n + bit (eqb u v) ≡ 2
sum_ends u v n h k =
    let p = sum_hit u n h in
    let q = sum_hit v n k in
    ⊎_elim
    (λ (e : u ≡ v).
    let r = sum_same (λ a. bit (eqb u a || eqb v a)) (λ a. bit (eqb u a)) n (λ a _. grind (arith, nat_tests)) in
    rw (eq-eqb u v e) (omega arith))
    (λ (d : u ≡ v → ⊥).
    let r = sum_add (λ a. bit (eqb u a)) (λ a. bit (eqb v a)) (λ a. bit (eqb u a || eqb v a)) n (λ a _. grind (arith, nat_tests)) in
    rw (ne_eqb u v d) (omega arith))
    (cases_eq u v)

either : (a b : Bool) → bit (a || b) ≤ bit a + bit b
either true true = omega arith
either true false = omega arith
either false true = omega arith
either false false = omega arith

pub sum_twice : (u v n : ℕ) → sum (λ a. bit (eqb u a || eqb v a)) n ≤ 2
sum_twice u v n =
    let p = sum_once u n in
    let q = sum_once v n in
    let s = sum_add (λ a. bit (eqb u a)) (λ a. bit (eqb v a)) (λ a. bit (eqb u a) + bit (eqb v a)) n (λ _ _. refl) in
    let l = sum_most (λ a. bit (eqb u a || eqb v a)) (λ a. bit (eqb u a) + bit (eqb v a)) n (λ a _. either (eqb u a) (eqb v a)) in
    omega arith

-- one term is one more
pub sum_high : (f : ℕ → ℕ) (x n : ℕ) → n ≤ x → sum (λ e. cond (eqb x e) (1 + f e) (f e)) n ≡ sum f n
sum_high f x n h = sum_same (λ e. cond (eqb x e) (1 + f e) (f e)) f n (λ e l. rw (ne_eqb x e (λ q. omega arith)))

pub sum_bump : (f : ℕ → ℕ) (x n : ℕ) → x < n → sum (λ e. cond (eqb x e) (1 + f e) (f e)) n ≡ 1 + sum f n
sum_bump f x zero h = absurd (omega arith)
sum_bump f x (suc n) h =
    ⊎_elim
    (λ (q : x ≡ n). let r = sum_high f x n (omega arith) in rw (eq-eqb x n q) (omega arith))
    (λ (d : x ≡ n → ⊥). let r = sum_bump f x n (omega arith) in rw (ne_eqb x n d) (omega arith))
    (cases_eq x n)
