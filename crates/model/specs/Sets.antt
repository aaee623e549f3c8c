-- Sets of numbers.
use Rattle.std.specs.Prelude.{ℕ, zero, suc, ◌+◌, ◌/◌, ◌%◌, ◌^◌, Bool, true, false, cond, ◌&&◌, List, Some, None, Option, ◌==◌, nat_le, nat_lt, slice_index}

abbrev pub Set : Type 0
Set = ℕ → Bool

abbrev pub nothing : Set
nothing y = false

abbrev pub add : Set → ℕ → Set
add s x y = cond (y == x) true (s y)

abbrev pub remove : Set → ℕ → Set
remove s x y = cond (y == x) false (s y)

-- bit i of a number, the lowest first
abbrev pub bit_at : ℕ → ℕ → Bool
bit_at w i = w / 2 ^ i % 2 == 1

-- the set whose bits stand in numbers of so many bits each, the lowest bit of the first number first; no number past them is in it
abbrev pub in_bits : ℕ → List ℕ → Set
in_bits width ws k = bit_at (slice_index ws (k / width)) (k % width)

-- the numbers from low on and below high
abbrev pub between : ℕ → ℕ → Set
between low high k = nat_le low k && nat_lt k high

-- the first of n numbers from start on that is not in the set
abbrev pub first_free : Set → ℕ → ℕ → Option ℕ
first_free s start zero = None
first_free s start (suc n) = cond (s start) (first_free s (start + 1) n) (Some start)

-- the set without the numbers below n
abbrev pub above : ℕ → Set → Set
above n s k = cond (nat_lt k n) false (s k)
