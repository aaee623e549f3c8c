-- Clearing all below the capacity. Assumes nothing.
use Rattle.std.proofs.Common.{◌≡◌, ℕ, ◌*◌, ◌/◌, ◌%◌, ◌^◌, ◌<◌, ◌&&◌, ltb, ap, ◌∙◌, mod-eq_of_lt, div-mul-le_self, arith}
use mathlib.Core.Path.{fun_ext}
use Rattle.model.specs.Sets.{Set, nothing, above}
use Rattle.marks.specs.Words.{without}
use Rattle.model.proofs.Words.{limit_above, above_parts}

-- the numbers of s below n
abbrev below : ℕ → Set → Set
below n s k = ltb k n && s k

same_below : (n n' : ℕ) (s s' : Set) → n' ≡ n → s' ≡ s → below n' s' ≡ below n s
same_below n n' s s' e f = ap (λ x. below x s') e ∙ ap (below n) f

pub after_clear : (n n' : ℕ) (s s' : Set) → n' ≡ n → s' ≡ above n s → below n' s' ≡ nothing
after_clear n n' s s' same e = same_below n n' (above n s) s' same e ∙ limit_above n s

-- a shift down and up again stays in its word
pub shifts_fit : (w r : ℕ) → w < 18446744073709551616 → w / 2 ^ r * 2 ^ r % 18446744073709551616 ≡ w / 2 ^ r * 2 ^ r
shifts_fit w r h = let l = div-mul-le_self w (2 ^ r) in mod-eq_of_lt (omega arith)

-- all below the capacity: whole words, and then the first bits of the next
module _ (n : ℕ) (s mid : Set) (e : mid ≡ above (64 * (n / 64)) s) where
  pub clear_parts : (last : Set) → last ≡ without (n / 64) (n % 64) mid → last ≡ above n s
  clear_parts last f = f ∙ ap (without (n / 64) (n % 64)) e ∙ fun_ext (λ j. above_parts s n j)

  pub clear_whole : n % 64 ≡ 0 → mid ≡ above n s
  clear_whole z = let w : 64 * (n / 64) ≡ n = omega arith in e ∙ ap (λ x. above x s) w
