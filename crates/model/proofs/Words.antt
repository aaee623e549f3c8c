-- Sets kept as bits of 64-bit words: what setting, clearing and masking a word does to the set. Assumes nothing.
use Rattle.std.proofs.Common.{◌≡◌, ℕ, zero, suc, ◌+◌, ◌-◌, ◌*◌, ◌/◌, ◌%◌, ◌^◌, ◌<◌, ◌≤◌, max, Bool, true, false, cond, not, ◌&&◌, ◌||◌, eqb, ltb, List, length, get_or, set, sym, refl, ap, ◌∙◌, subst, ⊎_elim, mul_assoc, mul-add, arith}
use mathlib.Core.Path.{fun_ext}
use native.Mathlib.Nat.{two-pow-succ, div_self, div-eq_of_lt}
use lib.Bits.{bit_or, bit_xor, or_step, xor_step, differ}
use Rattle.std.proofs.lemmas.Bool.{cases_order, cases_eq, cases_lt, eq-eqb, ne_eqb, lt-ltb, le-ltb, eqb-true}
use Rattle.std.proofs.lemmas.Bool.Decides.{nat_tests}
use Rattle.std.proofs.lemmas.Nat.{or_shr, xor_shr, pow_pos, pow-add, shl-shr, shr-shr, pow_below, mod_below}
use Rattle.std.proofs.lemmas.List.{get_or-set_same, get_or-set_other}
use Rattle.model.specs.Sets.{Set, nothing, add, remove, bit_at, in_bits, above}

-- Bits of one number.

-- a power above the bit is even there
even_pow : (q n : ℕ) → q * 2 ^ suc n % 2 ≡ 0
even_pow q n = let e : q * 2 ^ suc n ≡ q * 2 ^ n + q * 2 ^ n = ap (λ p. q * p) (two-pow-succ n) ∙ mul-add q (2 ^ n) (2 ^ n) in omega arith

shifted_low : (q i j : ℕ) → j < i → q * 2 ^ i / 2 ^ j % 2 ≡ 0
shifted_low q i j h =
    let n = i - j - 1 in
    let e : i ≡ suc n + j = omega arith in
    let s : q * 2 ^ i ≡ q * 2 ^ suc n * 2 ^ j = ap (λ m. q * 2 ^ m) e ∙ ap (λ m. q * m) (pow-add 2 (suc n) j) ∙ sym (mul_assoc q (2 ^ suc n) (2 ^ j)) in
    ap (λ m. m / 2 ^ j % 2) s ∙ ap (λ m. m % 2) (shl-shr (q * 2 ^ suc n) j) ∙ even_pow q n

-- the bits of a power
pow_bit : (i j : ℕ) → bit_at (2 ^ i) j ≡ eqb j i
pow_bit i j =
    ⊎_elim
    (λ e. let P : ℕ → Type 0 = λ n. bit_at (2 ^ i) n ≡ eqb n i in subst P (sym e) (ap (λ n. eqb (n % 2) 1) (div_self (pow_pos i)) ∙ sym (eq-eqb i i refl)))
    (⊎_elim
    (λ h. let one : 1 * 2 ^ i ≡ 2 ^ i = omega arith in ap (λ n. eqb n 1) (ap (λ p. p / 2 ^ j % 2) (sym one) ∙ shifted_low 1 i j h) ∙ sym (ne_eqb j i (λ e. omega arith)))
    (λ h. ap (λ n. eqb (n % 2) 1) (div-eq_of_lt (pow_below i j h)) ∙ sym (ne_eqb j i (λ e. omega arith))))
    (cases_order j i)

or_low : (a b : ℕ) → bit_or a b % 2 ≡ max (a % 2) (b % 2)
or_low a b = omega (arith, or_step a b)

or_bit : (a b : ℕ) → eqb (max (a % 2) (b % 2)) 1 ≡ (eqb (a % 2) 1 || eqb (b % 2) 1)
or_bit a b = grind (arith, nat_tests)

bit_at_or : (w i j : ℕ) → bit_at (bit_or w (2 ^ i)) j ≡ (bit_at w j || eqb j i)
bit_at_or w i j =
    ap (λ n. eqb (n % 2) 1) (or_shr w (2 ^ i) j)
    ∙ ap (λ n. eqb n 1) (or_low (w / 2 ^ j) (2 ^ i / 2 ^ j))
    ∙ or_bit (w / 2 ^ j) (2 ^ i / 2 ^ j)
    ∙ ap (λ b. bit_at w j || b) (pow_bit i j)

differ_bits : (x y : ℕ) → x < 2 → y < 2 → eqb (differ x y) 1 ≡ cond (eqb y 1) (not (eqb x 1)) (eqb x 1)
differ_bits zero zero h l = refl
differ_bits zero (suc zero) h l = refl
differ_bits (suc zero) zero h l = refl
differ_bits (suc zero) (suc zero) h l = refl
differ_bits (suc (suc x)) y h l = absurd (omega arith)
differ_bits zero (suc (suc y)) h l = absurd (omega arith)
differ_bits (suc zero) (suc (suc y)) h l = absurd (omega arith)

differ_lt : (x y : ℕ) → x < 2 → y < 2 → differ x y < 2
differ_lt zero zero h l = omega arith
differ_lt zero (suc zero) h l = omega arith
differ_lt (suc zero) zero h l = omega arith
differ_lt (suc zero) (suc zero) h l = omega arith
differ_lt (suc (suc x)) y h l = absurd (omega arith)
differ_lt zero (suc (suc y)) h l = absurd (omega arith)
differ_lt (suc zero) (suc (suc y)) h l = absurd (omega arith)

xor_low : (a b : ℕ) → differ (a % 2) (b % 2) < 2 → bit_xor a b % 2 ≡ differ (a % 2) (b % 2)
xor_low a b h = omega (arith, xor_step a b)

bit_at_xor : (w i j : ℕ) → bit_at (bit_xor w (2 ^ i)) j ≡ cond (eqb j i) (not (bit_at w j)) (bit_at w j)
bit_at_xor w i j =
    let a = w / 2 ^ j in
    let b = 2 ^ i / 2 ^ j in
    let x = mod_below a 2 (omega arith) in
    let y = mod_below b 2 (omega arith) in
    ap (λ n. eqb (n % 2) 1) (xor_shr w (2 ^ i) j)
    ∙ ap (λ n. eqb n 1) (xor_low a b (differ_lt (a % 2) (b % 2) x y))
    ∙ differ_bits (a % 2) (b % 2) x y
    ∙ ap (λ t. cond t (not (bit_at w j)) (bit_at w j)) (pow_bit i j)

-- the bits from r on
bit_high : (w r j : ℕ) → bit_at (w / 2 ^ r * 2 ^ r) j ≡ cond (ltb j r) false (bit_at w j)
bit_high w r j =
    ⊎_elim
    (λ (l : j < r). ap (λ n. eqb n 1) (shifted_low (w / 2 ^ r) r j l) ∙ rw (lt-ltb j r l))
    (λ (l : r ≤ j).
    let e : j ≡ r + (j - r) = omega arith in
    let s : w / 2 ^ r * 2 ^ r / 2 ^ j ≡ w / 2 ^ j =
    ap (λ m. w / 2 ^ r * 2 ^ r / 2 ^ m) e ∙ sym (shr-shr (w / 2 ^ r * 2 ^ r) r (j - r)) ∙ ap (λ m. m / 2 ^ (j - r)) (shl-shr (w / 2 ^ r) r) ∙ shr-shr w r (j - r) ∙ ap (λ m. w / 2 ^ m) (sym e) in
    ap (λ n. eqb (n % 2) 1) s ∙ rw (le-ltb j r l))
    (cases_lt j r)

-- Bits of words.

same_word : (j k : ℕ) → j / 64 ≡ k / 64 → eqb (j % 64) (k % 64) ≡ eqb j k
same_word j k e = grind (arith, nat_tests)

module _ (ws : List ℕ) (i v : ℕ) (l : i < length ws) where
  -- one word is another
  set_word : (j : ℕ) → in_bits 64 (set ws i v) j ≡ cond (eqb (j / 64) i) (bit_at v (j % 64)) (in_bits 64 ws j)
  set_word j =
      ⊎_elim
      (λ (e : j / 64 ≡ i). rw (eq-eqb (j / 64) i e) (ap (λ n. bit_at (get_or (set ws i v) n 0) (j % 64)) e ∙ ap (λ w. bit_at w (j % 64)) (get_or-set_same ws i v 0 l)))
      (λ (d : j / 64 ≡ i → ⊥). rw (ne_eqb (j / 64) i d) (ap (λ w. bit_at w (j % 64)) (get_or-set_other ws i (j / 64) v 0 d)))
      (cases_eq (j / 64) i)

or_true : (x t : Bool) → (x || t) ≡ cond t true x
or_true true true = refl
or_true true false = refl
or_true false true = refl
or_true false false = refl

-- setting bit k adds k
pub bits_add : (ws : List ℕ) (k : ℕ) → k / 64 < length ws → in_bits 64 (set ws (k / 64) (bit_or (get_or ws (k / 64) 0) (2 ^ (k % 64)))) ≡ add (in_bits 64 ws) k
bits_add ws k l =
    fun_ext (λ j.
    set_word ws (k / 64) (bit_or (get_or ws (k / 64) 0) (2 ^ (k % 64))) l j
    ∙ ⊎_elim
    (λ (e : j / 64 ≡ k / 64).
    rw (eq-eqb (j / 64) (k / 64) e)
    (bit_at_or (get_or ws (k / 64) 0) (k % 64) (j % 64)
    ∙ ap (λ t. bit_at (get_or ws (k / 64) 0) (j % 64) || t) (same_word j k e)
    ∙ or_true (bit_at (get_or ws (k / 64) 0) (j % 64)) (eqb j k)
    ∙ ap (λ i. cond (eqb j k) true (bit_at (get_or ws i 0) (j % 64))) (sym e)))
    (λ (d : j / 64 ≡ k / 64 → ⊥). let n = ne_eqb j k (λ q. d (ap (λ x. x / 64) q)) in rw (ne_eqb (j / 64) (k / 64) d, n))
    (cases_eq (j / 64) (k / 64)))

drop_one : (x t : Bool) → (t ≡ true → x ≡ true) → cond t (not x) x ≡ cond t false x
drop_one true true h = refl
drop_one false true h = sym (h refl)
drop_one x false h = refl

-- turning bit k, which is set, removes k
pub bits_remove : (ws : List ℕ) (k : ℕ) → k / 64 < length ws → in_bits 64 ws k ≡ true → in_bits 64 (set ws (k / 64) (bit_xor (get_or ws (k / 64) 0) (2 ^ (k % 64)))) ≡ remove (in_bits 64 ws) k
bits_remove ws k l is =
    fun_ext (λ j.
    set_word ws (k / 64) (bit_xor (get_or ws (k / 64) 0) (2 ^ (k % 64))) l j
    ∙ ⊎_elim
    (λ (e : j / 64 ≡ k / 64).
    let w = get_or ws (k / 64) 0 in
    rw (eq-eqb (j / 64) (k / 64) e)
    (bit_at_xor w (k % 64) (j % 64)
    ∙ ap (λ t. cond t (not (bit_at w (j % 64))) (bit_at w (j % 64))) (same_word j k e)
    ∙ drop_one (bit_at w (j % 64)) (eqb j k) (λ t. ap (λ q. bit_at w (q % 64)) (eqb-true j k t) ∙ is)
    ∙ ap (λ i. cond (eqb j k) false (bit_at (get_or ws i 0) (j % 64))) (sym e)))
    (λ (d : j / 64 ≡ k / 64 → ⊥). let n = ne_eqb j k (λ q. d (ap (λ x. x / 64) q)) in rw (ne_eqb (j / 64) (k / 64) d, n))
    (cases_eq (j / 64) (k / 64)))

-- masking the first bits of a word
pub bits_mask : (ws : List ℕ) (i r : ℕ) → i < length ws → in_bits 64 (set ws i (get_or ws i 0 / 2 ^ r * 2 ^ r)) ≡ λ j. cond (eqb (j / 64) i && ltb (j % 64) r) false (in_bits 64 ws j)
bits_mask ws i r l =
    fun_ext (λ j.
    set_word ws i (get_or ws i 0 / 2 ^ r * 2 ^ r) l j
    ∙ ⊎_elim
    (λ (q : j / 64 ≡ i). rw (eq-eqb (j / 64) i q) (bit_high (get_or ws i 0) r (j % 64) ∙ ap (λ n. cond (ltb (j % 64) r) false (bit_at (get_or ws n 0) (j % 64))) (sym q)))
    (λ (d : j / 64 ≡ i → ⊥). rw (ne_eqb (j / 64) i d))
    (cases_eq (j / 64) i))

-- whole words and then the first bits of the next: all below n
pub above_parts : (s : Set) (n j : ℕ) → cond (eqb (j / 64) (n / 64) && ltb (j % 64) (n % 64)) false (above (64 * (n / 64)) s j) ≡ above n s j
above_parts s n j =
    ⊎_elim
    (λ (h : j < n).
    ⊎_elim
    (λ (q : j / 64 ≡ n / 64). let b : j % 64 < n % 64 = omega arith in rw (eq-eqb (j / 64) (n / 64) q, lt-ltb (j % 64) (n % 64) b, lt-ltb j n h))
    (λ (d : j / 64 ≡ n / 64 → ⊥). let b : j < 64 * (n / 64) = omega arith in rw (ne_eqb (j / 64) (n / 64) d, lt-ltb j (64 * (n / 64)) b, lt-ltb j n h))
    (cases_eq (j / 64) (n / 64)))
    (λ (h : n ≤ j).
    let c : 64 * (n / 64) ≤ j = omega arith in
    ⊎_elim
    (λ (q : j / 64 ≡ n / 64). let b : n % 64 ≤ j % 64 = omega arith in rw (eq-eqb (j / 64) (n / 64) q, le-ltb (j % 64) (n % 64) b, le-ltb j (64 * (n / 64)) c, le-ltb j n h))
    (λ (d : j / 64 ≡ n / 64 → ⊥). rw (ne_eqb (j / 64) (n / 64) d, le-ltb j (64 * (n / 64)) c, le-ltb j n h))
    (cases_eq (j / 64) (n / 64)))
    (cases_lt j n)

-- The same for the numbers below a limit.
module _ (n : ℕ) (s : Set) where
  pub limit_add : (k : ℕ) → k < n → (λ j. ltb j n && add s k j) ≡ add (λ j. ltb j n && s j) k
  limit_add k h =
      fun_ext (λ j.
      ⊎_elim
      (λ (e : j ≡ k). rw (eq-eqb j k e, lt-ltb j n (omega arith)))
      (λ (d : j ≡ k → ⊥). rw (ne_eqb j k d))
      (cases_eq j k))

  pub limit_remove : (k : ℕ) → (λ j. ltb j n && remove s k j) ≡ remove (λ j. ltb j n && s j) k
  limit_remove k =
      fun_ext (λ j.
      ⊎_elim
      (λ (e : j ≡ k). rw (eq-eqb j k e) (and_none (ltb j n)))
      (λ (d : j ≡ k → ⊥). rw (ne_eqb j k d))
      (cases_eq j k))
    where
      and_none : (b : Bool) → (b && false) ≡ false
      and_none true = refl
      and_none false = refl

  pub limit_above : (λ j. ltb j n && above n s j) ≡ nothing
  limit_above = fun_ext (λ j. elim (ltb j n) as (λ b. (b && cond b false (s j)) ≡ false) [ true ↦ refl | false ↦ refl ])
