-- The walk over a stack shows nodes in depth-first order, and its stack stays small.
use Rattle.std.specs.Prelude.{◌≡◌, ℕ, ◌+◌, ◌<◌, ◌≤◌, false, cond, ◌⊎◌, List, [], ◌∷◌, length}
use Rattle.model.specs.Model.{sum}
use Rattle.model.specs.Paths.{In}
use Rattle.model.specs.Sets.{Set, add}
use Rattle.theory.specs.Search.{Rows, Within, visits, visit}

-- what one step comes to: the end, or the node that is shown with the marks and the stack after it, the top first
pub data Step : Type 0 where
  ended : Step
  shows : ℕ → Set → List ℕ → Step

-- the unmarked ones of a row are pushed in row order: the last of the row is on top
abbrev pub pushed : Set → List ℕ → List ℕ → List ℕ
pushed m [] st = st
pushed m (y ∷ ys) st = pushed m ys (cond (m y) st (y ∷ st))

-- the top is taken until one is unmarked
abbrev pub step : Rows → Set → List ℕ → Step
step row m [] = ended
step row m (x ∷ st) = cond (m x) (step row m st) (shows x (add m x) (pushed (add m x) (row x) st))

-- what a walk has yet to show: the depth-first order from its stack
abbrev pub to_come : Rows → ℕ → Set → List ℕ → List ℕ
to_come row N m st = (visits (visit row N) st m).shown

-- the sum of w over the nodes below N that are not in the set
abbrev pub left : (ℕ → ℕ) → Set → ℕ → ℕ
left w m N = sum (λ y. cond (m y) 0 (w y)) N

-- one step of the walk
pub record Walks (row : Rows) (N : ℕ) (m : Set) (st : List ℕ) : Type 0 where
  -- at the end nothing is left to show
  pub at_end : step row m st ≡ ended → to_come row N m st ≡ []
  -- a shown node is the next of the order
  pub goes : (x : ℕ) (m' : Set) (st' : List ℕ) → step row m st ≡ shows x m' st' → to_come row N m st ≡ x ∷ to_come row N m' st'
  -- it was unmarked, and is marked then
  pub new : (x : ℕ) (m' : Set) (st' : List ℕ) → step row m st ≡ shows x m' st' → (m x ≡ false) × (m' ≡ add m x) × (x < N)
  -- what the stack and the rows of unmarked nodes hold together does not grow
  pub small : (x : ℕ) (m' : Set) (st' : List ℕ) → step row m st ≡ shows x m' st' → length st' + left (λ y. length (row y)) m' N ≤ length st + left (λ y. length (row y)) m N
  -- what is on the stack was there before or comes from the row
  pub inside : (x : ℕ) (m' : Set) (st' : List ℕ) → step row m st ≡ shows x m' st' → (y : ℕ) → In y st' → In y st ⊎ In y (row x)

abbrev pub WalkLaw : Type 0
WalkLaw = (row : Rows) (N : ℕ) → Within row N → (m : Set) (st : List ℕ) → ((x : ℕ) → In x st → x < N) → Walks row N m st
