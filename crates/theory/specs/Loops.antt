-- The loop over one stack with the first self-loop noted beside, and what the search discovers.
use Rattle.std.specs.Prelude.{◌≡◌, ℕ, zero, suc, ◌<◌, true, cond, List, [], ◌∷◌, ◌++◌, Option}
use Rattle.model.specs.Paths.{In}
use Rattle.model.specs.Sets.{Set, nothing, add}
use Rattle.theory.specs.Search.{Rows, Within, Reach, visits, visit}
use Rattle.theory.specs.Walk.{pushed}
use Rattle.theory.specs.Order.{searched, member, first_loop, or_else}

-- all nodes in the order of discovery
abbrev pub discovered : Rows → ℕ → List ℕ → List ℕ
discovered row N nodes = (visits (visit row N) nodes nothing).shown

-- looped is the first node discovered that has itself in its row
pub record Tracked : Type 0 where
  pub seen : Set
  pub stack : List ℕ
  pub order : List ℕ
  pub looped : Option ℕ

abbrev pub track : Rows → Set → List ℕ → List ℕ → Option ℕ → Tracked
track row m [] out o = record { seen = m; stack = []; order = out; looped = o }
track row m (x ∷ st) out o =
    cond (m x)
    (record { seen = m; stack = st; order = cond (member x out) out (x ∷ out); looped = o })
    (record { seen = add m x; stack = pushed (add m x) (row x) (x ∷ st); order = out; looped = or_else o (first_loop row (x ∷ [])) })

abbrev pub one_track : Rows → Tracked → Tracked
one_track row s = track row s.seen s.stack s.order s.looped

abbrev pub tracks : Rows → ℕ → Tracked → Tracked
tracks row zero s = s
tracks row (suc k) s = tracks row k (one_track row s)

-- the loop's state between two nodes, the listed ones done
abbrev pub between : Rows → ℕ → List ℕ → List ℕ → Tracked
between row N nodes st =
    let v = searched row N nodes in
    record { seen = v.seen; stack = st; order = v.order; looped = first_loop row (discovered row N nodes) }

-- the loop from one more node does what the search does
abbrev pub TrackLaw : Type 0
TrackLaw =
    (row : Rows) (N : ℕ) → Within row N → (nodes : List ℕ) → ((y : ℕ) → In y nodes → y < N) → (x : ℕ) → x < N →
    (k : ℕ) × (tracks row k (between row N nodes (x ∷ [])) ≡ between row N (nodes ++ x ∷ []) [])

-- the search discovers what paths reach
abbrev pub SeenLaw : Type 0
SeenLaw =
    (row : Rows) (N : ℕ) → Within row N → (x : ℕ) → x < N → (y : ℕ) →
    ((searched row N (x ∷ [])).seen y ≡ true → Reach row nothing x y) × (Reach row nothing x y → (searched row N (x ∷ [])).seen y ≡ true)
