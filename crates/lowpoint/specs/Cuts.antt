-- Bridges and cut nodes, over what a graph means.
use Rattle.std.specs.Prelude.{◌≡◌, ℕ, zero, suc, ◌≤◌, Bool, true, false, not, ◌&&◌, ◌||◌, List, [], ◌∷◌, Some, None, ◌==◌}
use Rattle.model.specs.Model.{Model, Ends, Lawful}
use Rattle.model.specs.Paths.{Step, Path, In, Touches, Uses, Reaches}
use Rattle.model.specs.Sets.{Set}
use Rattle.model.specs.Views.{keep_nodes, keep_edges}
use Rattle.theory.specs.Models.{upto, joined}

-- every path from the tail of the edge to its head uses it
pub record Bridge (m : Model) (e : ℕ) : Type 0 where
  pub tail : ℕ
  pub head : ℕ
  pub ends : m.ends e ≡ Some (tail, head)
  pub every : (s : List Step) → Path m tail s head → Uses e s

-- two other nodes are joined by a path, and every path between them touches the node
pub record CutNode (m : Model) (v : ℕ) : Type 0 where
  pub present : m.present v ≡ true
  pub one : ℕ
  pub two : ℕ
  pub one_other : one ≡ v → ⊥
  pub two_other : two ≡ v → ⊥
  pub path : Reaches m one two
  pub every : (s : List Step) → Path m one s two → Touches v one s

-- The same as tests, by depth-first search.

-- every number but k
abbrev pub but : ℕ → Set
but k x = not (x == k)

abbrev pub parted : Model → Ends → Bool
parted m None = false
parted m (Some (t, h)) = not (joined m t h)

-- the ends of the edge are not joined in the graph without it
abbrev pub is_bridge : Model → Set
is_bridge m e = parted (keep_edges (but e) m) (m.ends e)

-- some number below n passes
abbrev pub any : Set → ℕ → Bool
any p zero = false
any p (suc n) = p n || any p n

-- a and b, both other than v, are joined, and are not in the graph without v
abbrev pub parts : Model → ℕ → ℕ → ℕ → Bool
parts m v a b = m.present a && (but v a && (but v b && (joined m a b && not (joined (keep_nodes (but v) m) a b))))

abbrev pub is_cut : Model → Set
is_cut m v = m.present v && any (λ a. any (parts m v a) m.nodes) m.nodes

abbrev pub bridge_list : Model → List ℕ
bridge_list m = upto (is_bridge m) m.edges

abbrev pub cut_list : Model → List ℕ
cut_list m = upto (is_cut m) m.nodes

-- each number is greater than the one before, and the first is at least low
abbrev pub Rising : ℕ → List ℕ → Type 0
Rising low [] = Unit {0}
Rising low (x ∷ xs) = (low ≤ x) × Rising (suc x) xs

-- ascending, those of which P holds and no other
pub record ListsAll (P : ℕ → Type 0) (list : List ℕ) : Type 0 where
  pub ascends : Rising 0 list
  pub sound : (x : ℕ) → In x list → P x
  pub whole : (x : ℕ) → P x → In x list

-- the lists hold the bridges and the cut nodes, and nothing else, ascending
pub record Cuts (m : Model) : Type 0 where
  pub bridges : ListsAll (Bridge m) (bridge_list m)
  pub cuts : ListsAll (CutNode m) (cut_list m)

abbrev pub CutsLaw : Type 0
CutsLaw = (m : Model) → Lawful m → Cuts m
