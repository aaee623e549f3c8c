-- A depth-first search as a derivation, and that `visits` computes it. Assumes nothing.
use Rattle.std.proofs.Common.{◌≡◌, ℕ, zero, suc, ◌<◌, ◌≤◌, Bool, true, false, cond, List, [], ◌∷◌, ◌++◌, reverse, refl, inl, inr, ⊎_elim, append_assoc, arith}
use Rattle.std.proofs.lemmas.Bool.{cases_Bool, both_ways}
use Rattle.model.specs.Paths.{In}
use Rattle.model.specs.Sets.{Set, add}
use Rattle.theory.specs.Search.{Rows, Within, Found, visits, visit}
use Rattle.theory.specs.Walk.{left}
use Rattle.theory.proofs.Lists.{in_reverse}
use Rattle.theory.proofs.Sets.{add_kept, left_add, left_less}

-- from the marks m the listed nodes are visited in turn, to the marks m'; out is what is discovered
pub data Dfs (row : Rows) : List ℕ → Set → Set → List ℕ → Type 0 where
  over : {m : Set} → Dfs row [] m m []
  skip : {x : ℕ} {xs : List ℕ} {m m' : Set} {out : List ℕ} → m x ≡ true → Dfs row xs m m' out → Dfs row (x ∷ xs) m m' out
  into : {x : ℕ} {xs : List ℕ} {m m₁ m' : Set} {a b : List ℕ} → m x ≡ false → Dfs row (reverse (row x)) (add m x) m₁ a → Dfs row xs m₁ m' b → Dfs row (x ∷ xs) m m' (x ∷ (a ++ b))

module _ (row : Rows) where
  pub dfs_kept : {xs : List ℕ} {m m' : Set} {out : List ℕ} → Dfs row xs m m' out → (y : ℕ) → m y ≡ true → m' y ≡ true
  dfs_kept over y k = k
  dfs_kept (skip u d) y k = dfs_kept d y k
  dfs_kept (into {x = x} {m = m} u d e) y k = dfs_kept e y (dfs_kept d y (add_kept m x y k))

  -- the listed nodes and the marks determine what is discovered
  pub dfs_same : {xs : List ℕ} {m a b : Set} {o p : List ℕ} → Dfs row xs m a o → Dfs row xs m b p → (a ≡ b) × (o ≡ p)
  dfs_same over over = (refl, refl)
  dfs_same (skip u d) (skip v e) = dfs_same d e
  dfs_same (skip {x = x} {m = m} u d) (into v e f) = absurd (both_ways (m x) v u)
  dfs_same (into {x = x} {m = m} u d e) (skip v f) = absurd (both_ways (m x) u v)
  dfs_same (into {x = x} {xs = xs} {m₁ = m₁} u d e) (into {m' = m'} {b = b} v f g) =
      let p = dfs_same d f in
      let h : Dfs row xs m₁ m' b = rw p.0 g in
      let q = dfs_same e h in
      (q.0, cc)

  pub dfs_join : {xs ys : List ℕ} {m m₁ m' : Set} {a b : List ℕ} → Dfs row xs m m₁ a → Dfs row ys m₁ m' b → Dfs row (xs ++ ys) m m' (a ++ b)
  dfs_join over e = e
  dfs_join (skip u d) e = skip u (dfs_join d e)
  dfs_join (into {x = x} {a = a} {b = b} u d f) e = rw append_assoc (into u d (dfs_join f e))

  -- with enough fuel the function computes the derivation
  abbrev Total : ℕ → ℕ → Type 0
  Total N k =
      (xs : List ℕ) (m : Set) → left (λ _. 1) m N ≤ k → ((y : ℕ) → In y xs → y < N) → Dfs row xs m (visits (visit row k) xs m).seen (visits (visit row k) xs m).shown

  total_zero : (N : ℕ) → Total N 0
  total_zero N [] m h w = over
  total_zero N (x ∷ xs) m h w =
      ⊎_elim
      (λ (k : m x ≡ true). skip k (total_zero N xs m h (λ y i. w y (inr i))))
      (λ (k : m x ≡ false). absurd (omega (arith, left_add (λ _. 1) m x N (w x (inl refl)) k)))
      (cases_Bool (m x))

  total_suc : (N k : ℕ) → Within row N → Total N k → Total N (suc k)
  total_suc N k c f [] m h w = over
  total_suc N k c f (x ∷ xs) m h w = go (m x) refl (λ z l. total_suc N k c f xs z l (λ y i. w y (inr i)))
    where
      inner : Found
      inner = visits (visit row k) (reverse (row x)) (add m x)

      after : Bool → Found
      after b = cond b (record { seen = m; shown = [] }) (record { seen = inner.seen; shown = x ∷ inner.shown })

      go : (b : Bool) → m x ≡ b → ((z : Set) → left (λ _. 1) z N ≤ suc k → Dfs row xs z (visits (visit row (suc k)) xs z).seen (visits (visit row (suc k)) xs z).shown) → Dfs row (x ∷ xs) m (visits (visit row (suc k)) xs (after b).seen).seen ((after b).shown ++ (visits (visit row (suc k)) xs (after b).seen).shown)
      go true u g = skip u (g m h)
      go false u g =
          let a = left_add (λ _. 1) m x N (w x (inl refl)) u in
          let d = f (reverse (row x)) (add m x) (omega arith) (λ y i. c x y (in_reverse y (row x) i)) in
          let b = left_less (λ _. 1) (add m x) inner.seen N (dfs_kept d) in
          into u d (g inner.seen (omega arith))

  pub total : (N k : ℕ) → Within row N → Total N k
  total N zero c = total_zero N
  total N (suc k) c = total_suc N k c (total N k c)
