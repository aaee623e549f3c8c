-- Images, computed. Assumes nothing.
use Rattle.std.proofs.Common.{◌≡◌, ℕ, List, [], ◌∷◌, take, set, Some, None, refl}
use Rattle.model.specs.declared.Direction.TheVariants.{Incoming}
use Rattle.format.specs.Format.{word, tables, row}
use Rattle.format.specs.Faults.{fault}

-- 0→1, 1→2
abbrev chain : List ℕ
chain = 0 ∷ 0 ∷ 0 ∷ 0 ∷ 3 ∷ 0 ∷ 0 ∷ 0 ∷ 2 ∷ 0 ∷ 0 ∷ 0 ∷ 32 ∷ 0 ∷ 0 ∷ 0 ∷ 48 ∷ 0 ∷ 0 ∷ 0 ∷ 64 ∷ 0 ∷ 0 ∷ 0 ∷ 72 ∷ 0 ∷ 0 ∷ 0 ∷ 88 ∷ 0 ∷ 0 ∷ 0 ∷ 0 ∷ 0 ∷ 0 ∷ 0 ∷ 1 ∷ 0 ∷ 0 ∷ 0 ∷ 1 ∷ 0 ∷ 0 ∷ 0 ∷ 2 ∷ 0 ∷ 0 ∷ 0 ∷ 0 ∷ 0 ∷ 0 ∷ 0 ∷ 1 ∷ 0 ∷ 0 ∷ 0 ∷ 2 ∷ 0 ∷ 0 ∷ 0 ∷ 2 ∷ 0 ∷ 0 ∷ 0 ∷ 0 ∷ 0 ∷ 0 ∷ 0 ∷ 1 ∷ 0 ∷ 0 ∷ 0 ∷ 0 ∷ 0 ∷ 0 ∷ 0 ∷ 0 ∷ 0 ∷ 0 ∷ 0 ∷ 1 ∷ 0 ∷ 0 ∷ 0 ∷ 2 ∷ 0 ∷ 0 ∷ 0 ∷ 0 ∷ 0 ∷ 0 ∷ 0 ∷ 1 ∷ 0 ∷ 0 ∷ 0 ∷ []

accepted : fault chain ≡ None
unfolding word
accepted = refl

cut : fault (take 95 chain) ≡ Some (4, 28)
unfolding word
cut = refl

short : fault (take 31 chain) ≡ Some (1, 31)
unfolding word
short = refl

kind_fault : fault (set chain 0 2) ≡ Some (2, 0)
unfolding word
kind_fault = refl

many : fault (set chain 6 1) ≡ Some (3, 4)
unfolding word
many = refl

end_fault : fault (set chain 44 3) ≡ Some (5, 44)
unfolding word
end_fault = refl

start_fault : fault (set chain 52 3) ≡ Some (6, 52)
unfolding word
start_fault = refl

entry_fault : fault (set chain 68 0) ≡ Some (7, 68)
unfolding word
entry_fault = refl

row_one : row (tables chain) Incoming 2 ≡ (0, 1, 1) ∷ []
unfolding word
row_one = refl

-- two-way 0–1, 1–1
abbrev looped : List ℕ
looped = 1 ∷ 0 ∷ 0 ∷ 0 ∷ 2 ∷ 0 ∷ 0 ∷ 0 ∷ 2 ∷ 0 ∷ 0 ∷ 0 ∷ 32 ∷ 0 ∷ 0 ∷ 0 ∷ 48 ∷ 0 ∷ 0 ∷ 0 ∷ 60 ∷ 0 ∷ 0 ∷ 0 ∷ 72 ∷ 0 ∷ 0 ∷ 0 ∷ 84 ∷ 0 ∷ 0 ∷ 0 ∷ 0 ∷ 0 ∷ 0 ∷ 0 ∷ 1 ∷ 0 ∷ 0 ∷ 0 ∷ 1 ∷ 0 ∷ 0 ∷ 0 ∷ 1 ∷ 0 ∷ 0 ∷ 0 ∷ 0 ∷ 0 ∷ 0 ∷ 0 ∷ 1 ∷ 0 ∷ 0 ∷ 0 ∷ 3 ∷ 0 ∷ 0 ∷ 0 ∷ 0 ∷ 0 ∷ 0 ∷ 0 ∷ 0 ∷ 0 ∷ 0 ∷ 0 ∷ 1 ∷ 0 ∷ 0 ∷ 0 ∷ 0 ∷ 0 ∷ 0 ∷ 0 ∷ 1 ∷ 0 ∷ 0 ∷ 0 ∷ 3 ∷ 0 ∷ 0 ∷ 0 ∷ 0 ∷ 0 ∷ 0 ∷ 0 ∷ 0 ∷ 0 ∷ 0 ∷ 0 ∷ 1 ∷ 0 ∷ 0 ∷ 0 ∷ []

looped_accepted : fault looped ≡ None
unfolding word
looped_accepted = refl

looped_row : row (tables looped) Incoming 1 ≡ (0, 0, 0) ∷ (1, 1, 1) ∷ []
unfolding word
looped_row = refl
