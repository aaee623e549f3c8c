-- Depth-first search over plain rows: the order in which it discovers nodes, and what it reaches.
use Rattle.std.specs.Prelude.{◌≡◌, ℕ, zero, suc, ◌<◌, ◌≤◌, false, cond, List, [], ◌∷◌, ◌++◌, reverse, length}
use Rattle.model.specs.Paths.{In, Distinct}
use Rattle.model.specs.Sets.{Set, add}

-- the far nodes of each node's out row, in row order
abbrev pub Rows : Type 0
Rows = ℕ → List ℕ

-- every far node is below N
abbrev pub Within : Rows → ℕ → Type 0
Within row N = (x y : ℕ) → In y (row x) → y < N

-- the nodes discovered so far, and those that a search discovered, in order
pub record Found : Type 0 where
  pub seen : Set
  pub shown : List ℕ

-- each of the listed nodes in turn
abbrev pub visits : (ℕ → Set → Found) → List ℕ → Set → Found
visits f [] m = record { seen = m; shown = [] }
visits f (x ∷ xs) m =
    let a = f x m in
    let b = visits f xs a.seen in
    record { seen = b.seen; shown = a.shown ++ b.shown }

-- a node that is not discovered yet is discovered, and then what its far nodes lead to, the last of its row first;
-- k bounds the depth
abbrev pub visit : Rows → ℕ → ℕ → Set → Found
visit row zero x m = record { seen = m; shown = [] }
visit row (suc k) x m =
    let w = visits (visit row k) (reverse (row x)) (add m x) in
    cond (m x) (record { seen = m; shown = [] }) (record { seen = w.seen; shown = x ∷ w.shown })

-- the depth-first order from s of the graph without the nodes of K
abbrev pub preorder : Rows → ℕ → Set → ℕ → List ℕ
preorder row N K s = (visit row N s K).shown

-- a path from s to a node that touches no node of K
pub data Reach (row : Rows) (K : Set) (s : ℕ) : ℕ → Type 0 where
  start : K s ≡ false → Reach row K s s
  along : {x y : ℕ} → Reach row K s x → In y (row x) → K y ≡ false → Reach row K s y

-- the order lists each node that a path reaches once, and nothing else
pub record Ordered (row : Rows) (N : ℕ) (K : Set) (s : ℕ) : Type 0 where
  pub once : Distinct (preorder row N K s)
  pub few : length (preorder row N K s) ≤ N
  pub sound : (y : ℕ) → In y (preorder row N K s) → Reach row K s y
  pub whole : (y : ℕ) → Reach row K s y → In y (preorder row N K s)
  -- the bound on the depth leaves the order as it is
  pub unfolds : K s ≡ false → preorder row N K s ≡ s ∷ (visits (visit row N) (reverse (row s)) (add K s)).shown

abbrev pub PreorderLaw : Type 0
PreorderLaw = (row : Rows) (N : ℕ) → Within row N → (K : Set) (s : ℕ) → s < N → Ordered row N K s
