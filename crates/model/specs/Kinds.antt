-- A kind's number in an image, and its name.
use Rattle.std.specs.Prelude.{◌≡◌, ℕ, ◌<◌, List, codes, Result, MatchResult}
use Rattle.model.specs.declared.Kind.{Kind}
use Rattle.model.specs.declared.Kind.TheVariants.{OneWay, TwoWay}
use Rattle.model.specs.declared.kinds.UnknownKind.{UnknownKind}

abbrev pub kind_number : Kind → ℕ
kind_number OneWay = 0
kind_number TwoWay = 1

abbrev pub kind_name : Kind → List ℕ
kind_name OneWay = codes "one-way"
kind_name TwoWay = codes "two-way"

-- the kind with this number, or the number where no kind has it
abbrev pub KindOf : ℕ → Result Kind UnknownKind → Type 0
KindOf n r = MatchResult r (λ k. kind_number k ≡ n) (λ u. (u.0 ≡ n) × (1 < n))
