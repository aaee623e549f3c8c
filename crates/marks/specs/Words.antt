-- What marks in words hold.
use Rattle.std.specs.Prelude.{◌≡◌, ℕ, ◌/◌, ◌%◌, ◌<◌, true, false, cond, ◌&&◌, ◌==◌, nat_lt}
use Rattle.std.proofs.lemmas.Bool.{ltb-true, and_parts}
use Rattle.model.specs.Sets.{Set, in_bits}
use Rattle.marks.specs.declared.words.WordMarks.{WordMarks}

-- every bit of the words, past the capacity too
abbrev pub bits_of : WordMarks → Set
bits_of w = in_bits 64 w.words.now

-- a set without the first bits of a word
abbrev pub without : ℕ → ℕ → Set → Set
without at rest s k = cond (k / 64 == at && nat_lt (k % 64) rest) false (s k)

-- the bits below the capacity
abbrev pub marks_of : WordMarks → Set
marks_of w k = nat_lt k w.limit && in_bits 64 w.words.now k

pub marks_below : (w : WordMarks) (k : ℕ) → marks_of w k ≡ true → k < w.limit
marks_below w k h = ltb-true k w.limit (and_parts (nat_lt k w.limit) (in_bits 64 w.words.now k) h).0
