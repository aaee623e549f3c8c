-- The write order: the finishing order of a depth-first search, latest first, and the node that is named where there is a cycle.
use Rattle.std.specs.Prelude.{◌≡◌, ℕ, zero, suc, ◌<◌, Bool, true, false, cond, List, [], ◌∷◌, reverse, Some, None, Option, ◌==◌, ◌≢◌}
use Rattle.model.specs.Paths.{In, Distinct}
use Rattle.model.specs.Sets.{Set, nothing, add}
use Rattle.theory.specs.Search.{Rows, Within, Reach, visits, visit}
use Rattle.theory.specs.Walk.{pushed}

-- the nodes discovered so far, and the finished ones, the latest first
pub record Finished : Type 0 where
  pub seen : Set
  pub order : List ℕ

-- each of the listed nodes in turn
abbrev pub finishes : (ℕ → Finished → Finished) → List ℕ → Finished → Finished
finishes f [] v = v
finishes f (x ∷ xs) v = finishes f xs (f x v)

-- a node that is not discovered yet is discovered, then its far nodes are finished, the last of its row first, and then it is finished;
-- k bounds the depth
abbrev pub finish : Rows → ℕ → ℕ → Finished → Finished
finish row zero x v = v
finish row (suc k) x v =
    let w = finishes (finish row k) (reverse (row x)) (record { seen = add v.seen x; order = v.order }) in
    cond (v.seen x) v (record { seen = w.seen; order = x ∷ w.order })

abbrev pub searched : Rows → ℕ → List ℕ → Finished
searched row N nodes = finishes (finish row N) nodes (record { seen = nothing; order = [] })

-- the finishing order of the whole graph, reversed
abbrev pub order : Rows → ℕ → List ℕ → List ℕ
order row N nodes = (searched row N nodes).order

-- a path of one step or more back to its start
abbrev pub OnCycle : Rows → ℕ → Type 0
OnCycle row a = (b : ℕ) × (In b (row a) × Reach row nothing b a)

-- every far node of a listed node stands later
abbrev pub Forward : Rows → List ℕ → Type 0
Forward row [] = Unit {0}
Forward row (x ∷ xs) = ((y : ℕ) → In y (row x) → In y xs) × Forward row xs

pub record Orders (row : Rows) (N : ℕ) (nodes : List ℕ) : Type 0 where
  pub once : Distinct (order row N nodes)
  pub all : (y : ℕ) → In y nodes → In y (order row N nodes)
  pub only : (y : ℕ) → In y (order row N nodes) → In y nodes
  pub forward : ((x : ℕ) → OnCycle row x → ⊥) → Forward row (order row N nodes)
  pub acyclic : Forward row (order row N nodes) → (x : ℕ) → In x nodes → OnCycle row x → ⊥

abbrev pub OrderLaw : Type 0
OrderLaw = (row : Rows) (N : ℕ) (nodes : List ℕ) → ((y : ℕ) → In y nodes → y < N) → ((x y : ℕ) → In y (row x) → In y nodes) → Orders row N nodes

-- The named node.

-- whether a number is in a list
abbrev pub member : ℕ → List ℕ → Bool
member x [] = false
member x (y ∷ ys) = cond (x == y) true (member x ys)

-- the first listed node with itself in its row
abbrev pub first_loop : Rows → List ℕ → Option ℕ
first_loop row [] = None
first_loop row (x ∷ xs) = cond (member x (row x)) (Some x) (first_loop row xs)

-- the last of these that is not in the set, or else o
abbrev pub last_outside : Set → List ℕ → Option ℕ → Option ℕ
last_outside m [] o = o
last_outside m (y ∷ ys) o = last_outside m ys (cond (m y) o (Some y))

abbrev pub or_else : Option ℕ → Option ℕ → Option ℕ
or_else None o = o
or_else (Some j) o = Some j

-- along the order: the last entry of a back row that leads to a later node, of the first node that has one
abbrev pub late : Rows → Set → List ℕ → Option ℕ
late back m [] = None
late back m (i ∷ is) = or_else (last_outside (add m i) (back i) None) (late back (add m i) is)

-- the node that is named: the first with a self-loop in the order of discovery; else the late one
abbrev pub named : Rows → Rows → ℕ → List ℕ → Option ℕ
named row back N nodes = or_else (first_loop row (visits (visit row N) nodes nothing).shown) (late back nothing (order row N nodes))

-- back rows turn the rows around
pub record Back (row back : Rows) : Type 0 where
  pub there : (x y : ℕ) → In y (row x) → In x (back y)
  pub here : (x y : ℕ) → In x (back y) → In y (row x)

pub record Names (row back : Rows) (N : ℕ) (nodes : List ℕ) : Type 0 where
  -- nothing is named: the order is right
  pub none : named row back N nodes ≡ None → Forward row (order row N nodes)
  -- a named node is on a cycle
  pub cycle : (j : ℕ) → named row back N nodes ≡ Some j → OnCycle row j
  -- so a node is named exactly when there is a cycle
  pub some : (x : ℕ) → OnCycle row x → named row back N nodes ≢ None

abbrev pub NameLaw : Type 0
NameLaw =
    (row back : Rows) (N : ℕ) (nodes : List ℕ) → ((y : ℕ) → In y nodes → y < N) →
    ((x y : ℕ) → In y (row x) → In x nodes) → ((x y : ℕ) → In y (row x) → In y nodes) → Back row back → Names row back N nodes

-- The loop over one stack: a node is met twice, and the second time it is finished.

pub record Flat : Type 0 where
  pub seen : Set
  pub stack : List ℕ
  pub order : List ℕ

abbrev pub turn : Rows → Set → List ℕ → List ℕ → Flat
turn row m [] out = record { seen = m; stack = []; order = out }
turn row m (x ∷ st) out =
    cond (m x)
    (record { seen = m; stack = st; order = cond (member x out) out (x ∷ out) })
    (record { seen = add m x; stack = pushed (add m x) (row x) (x ∷ st); order = out })

abbrev pub turns : Rows → ℕ → Flat → Flat
turns row zero s = s
turns row (suc k) s = turns row k (turn row s.seen s.stack s.order)

-- the loop from one more node does what the search does
abbrev pub LoopLaw : Type 0
LoopLaw =
    (row : Rows) (N : ℕ) → Within row N → (nodes : List ℕ) → ((y : ℕ) → In y nodes → y < N) → (x : ℕ) → x < N →
    let v = searched row N nodes in
    let w = finish row N x v in
    (k : ℕ) × (turns row k (record { seen = v.seen; stack = x ∷ []; order = v.order }) ≡ record { seen = w.seen; stack = []; order = w.order })
