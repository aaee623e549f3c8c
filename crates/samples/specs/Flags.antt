-- Marks as one byte for each number: marked where it is not 0.
use Rattle.std.specs.Prelude.{◌≡◌, ℕ, ◌<◌, true, not, ◌&&◌, List, length, ◌==◌, nat_lt, slice_index}
use Rattle.std.proofs.lemmas.Bool.{ltb-true, and_parts}
use Rattle.model.specs.Sets.{Set}

abbrev pub flagged : List ℕ → Set
flagged xs k = nat_lt k (length xs) && not (slice_index xs k == 0)

pub flagged_below : (xs : List ℕ) (k : ℕ) → flagged xs k ≡ true → k < length xs
flagged_below xs k h = ltb-true k (length xs) (and_parts (nat_lt k (length xs)) _ h).0
