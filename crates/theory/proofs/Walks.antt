-- The walk law. Assumes nothing.
use Rattle.std.proofs.Common.{◌≡◌, ℕ, suc, ◌+◌, ◌<◌, ◌≤◌, Bool, true, false, cond, ◌⊎◌, List, [], ◌∷◌, ◌++◌, length, sym, refl, ap, ◌∙◌, inl, inr, ⊎_elim, arith}
use mathlib.Core.List.{reverse_aux, reverse_aux-eq}
use Rattle.std.proofs.lemmas.Bool.{both_ways}
use Rattle.model.specs.Paths.{In}
use Rattle.model.specs.Sets.{Set, add}
use Rattle.theory.specs.Search.{Rows, visits, visit}
use Rattle.theory.specs.Walk.{ended, shows, pushed, step, to_come, WalkLaw}
use Rattle.theory.proofs.Sets.{add_kept, left_add, left_most}
use Rattle.theory.proofs.Search.{Dfs, over, skip, into, dfs_kept, dfs_same, dfs_join, total}

-- What a push leaves.

pub pushed_in : (m : Set) (ys st : List ℕ) (y : ℕ) → In y (pushed m ys st) → In y ys ⊎ In y st
pushed_in m [] st y i = inr i
pushed_in m (z ∷ ys) st y i = go (m z) (pushed_in m ys _ y i)
  where
    go : (b : Bool) → In y ys ⊎ In y (cond b st (z ∷ st)) → In y (z ∷ ys) ⊎ In y st
    go b (inl j) = inl (inr j)
    go true (inr j) = inr j
    go false (inr (inl e)) = inl (inl e)
    go false (inr (inr j)) = inr j

pub pushed_length : (m : Set) (ys st : List ℕ) → length (pushed m ys st) ≤ length ys + length st
pushed_length m [] st = omega arith
pushed_length m (z ∷ ys) st =
    let h = pushed_length m ys (cond (m z) st (z ∷ st)) in
    let k : length (cond (m z) st (z ∷ st)) ≤ suc (length st) = grind arith in
    omega arith

-- the second list is the first without some marked ones
data Thin (m : Set) : List ℕ → List ℕ → Type 0 where
  done : {xs : List ℕ} → Thin m xs xs
  keep : {x : ℕ} {xs ys : List ℕ} → Thin m xs ys → Thin m (x ∷ xs) (x ∷ ys)
  drop : {x : ℕ} {xs ys : List ℕ} → m x ≡ true → Thin m xs ys → Thin m (x ∷ xs) ys

thin_more : {m m' : Set} {xs ys : List ℕ} → ((y : ℕ) → m y ≡ true → m' y ≡ true) → Thin m xs ys → Thin m' xs ys
thin_more h done = done
thin_more h (keep t) = keep (thin_more h t)
thin_more h (drop {x = x} u t) = drop (h x u) (thin_more h t)

thin_pushed : (m : Set) (ys a b : List ℕ) → Thin m a b → Thin m (reverse_aux ys a) (pushed m ys b)
thin_pushed m [] a b t = t
thin_pushed m (y ∷ ys) a b t = go (m y) refl (thin_pushed m ys (y ∷ a))
  where
    go : (t : Bool) → m y ≡ t → ((b : List ℕ) → Thin m (y ∷ a) b → Thin m (reverse_aux ys (y ∷ a)) (pushed m ys b)) → Thin m (reverse_aux ys (y ∷ a)) (pushed m ys (cond t b (y ∷ b)))
    go true u f = f b (drop u t)
    go false u f = f (y ∷ b) (keep t)

module _ (row : Rows) where
  -- marked ones of the listed nodes do not count
  dfs_thin : {m m' : Set} {xs ys out : List ℕ} → Dfs row xs m m' out → Thin m xs ys → Dfs row ys m m' out
  dfs_thin d done = d
  dfs_thin (skip u d) (keep t) = skip u (dfs_thin d t)
  dfs_thin (skip u d) (drop v t) = dfs_thin d t
  dfs_thin (into {x = x} {m = m} u d e) (keep t) = into u d (dfs_thin e (thin_more (λ y k. dfs_kept row d y (add_kept m x y k)) t))
  dfs_thin (into {x = x} {m = m} u d e) (drop v t) = absurd (both_ways (m x) u v)

  -- the search from an unmarked top shows it, and goes on from what is pushed
  dfs_top : {m m₁ m' : Set} {x : ℕ} {st st₁ out : List ℕ} → m x ≡ false → m₁ ≡ add m x → st₁ ≡ pushed (add m x) (row x) st → Dfs row (x ∷ st) m m' out → (o : List ℕ) × (out ≡ x ∷ o) × Dfs row st₁ m₁ m' o
  dfs_top {m = m} {x = x} n q s (skip u d) = absurd (both_ways (m x) n u)
  dfs_top {m = m} {m' = m'} {x = x} {st = st} n q s (into {a = a} {b = b} u d e) =
      let j : Dfs row (reverse_aux (row x) st) (add m x) m' (a ++ b) = rw (reverse_aux-eq (row x) st) (dfs_join row d e) in
      (a ++ b, refl, rw (q, s) (dfs_thin j (thin_pushed (add m x) (row x) st st done)))

  -- a step that shows x
  record Popped (m : Set) (st : List ℕ) (x : ℕ) (m₁ : Set) (st₁ : List ℕ) : Type 0 where
    rest : List ℕ
    fresh : m x ≡ false
    marks : m₁ ≡ add m x
    stack : st₁ ≡ pushed (add m x) (row x) rest
    taken : In x st
    below : (y : ℕ) → In y rest → In y st
    shorter : length rest < length st
    thin : Thin m st (x ∷ rest)

  popped : (m : Set) (st : List ℕ) (x : ℕ) (m₁ : Set) (st₁ : List ℕ) → step row m st ≡ shows x m₁ st₁ → Popped m st x m₁ st₁
  popped m [] x m₁ st₁ e = absurd (let z : ◌≡◌ {A = ℕ} 0 1 = cc in omega arith)
  popped m (t ∷ st) x m₁ st₁ e = go (m t) refl e (popped m st x m₁ st₁)
    where
      go : (b : Bool) → m t ≡ b → cond b (step row m st) (shows t (add m t) (pushed (add m t) (row t) st)) ≡ shows x m₁ st₁ → (step row m st ≡ shows x m₁ st₁ → Popped m st x m₁ st₁) → Popped m (t ∷ st) x m₁ st₁
      go true u e f =
          let p = f e in
          record {
            rest = p.rest;
            fresh = p.fresh;
            marks = p.marks;
            stack = p.stack;
            taken = inr p.taken;
            below = λ y i. inr (p.below y i);
            shorter = omega (arith, p.shorter);
            thin = drop u p.thin;
          }
      go false u e f =
          let q : t ≡ x = cc in
          record {
            rest = st;
            fresh = rw (← q) u;
            marks = rw (← q) (cc);
            stack = rw (← q) (cc);
            taken = inl (sym q);
            below = λ y i. inr i;
            shorter = omega arith;
            thin = rw q done;
          }

  -- at the end every entry is marked
  idle : (m m' : Set) (st out : List ℕ) → step row m st ≡ ended → Dfs row st m m' out → out ≡ []
  idle m m' [] out e over = refl
  idle m m' (x ∷ st) out e (skip u d) = idle m m' st out (rw u at e) d
  idle m m' (x ∷ st) out e (into u d f) = let e₁ : shows x (add m x) (pushed (add m x) (row x) st) ≡ ended = rw u at e in cc

pub walk_law : WalkLaw
walk_law row N c m st h =
    let whole : (m : Set) (st : List ℕ) → ((x : ℕ) → In x st → x < N) → Dfs row st m (visits (visit row N) st m).seen (to_come row N m st) = λ m st h. total row N N c st m (left_most m N) h in
    let inner : (x : ℕ) (m₁ : Set) (st₁ : List ℕ) → step row m st ≡ shows x m₁ st₁ → (y : ℕ) → In y st₁ → In y st ⊎ In y (row x) =
    λ x m₁ st₁ e y i.
    let p = popped row m st x m₁ st₁ e in
    ⊎_elim (λ (j : In y (row x)). inr j) (λ (j : In y p.rest). inl (p.below y j)) (pushed_in (add m x) (row x) p.rest y (rw p.stack at i)) in
    record {
      at_end = λ e. idle row m _ st _ e (whole m st h);
      goes =
          λ x m₁ st₁ e.
          let p = popped row m st x m₁ st₁ e in
          let t = dfs_top row p.fresh p.marks p.stack (dfs_thin row (whole m st h) p.thin) in
          let d = whole m₁ st₁ (λ y i. ⊎_elim (h y) (c x y) (inner x m₁ st₁ e y i)) in
          let s = (dfs_same row t.2 d).1 in
          t.1 ∙ ap (λ (o : List ℕ). x ∷ o) s;
      new = λ x m₁ st₁ e. let p = popped row m st x m₁ st₁ e in (p.fresh, p.marks, h x p.taken);
      small =
          λ x m₁ st₁ e.
          let p = popped row m st x m₁ st₁ e in
          let a = pushed_length (add m x) (row x) p.rest in
          let b = left_add (λ y. length (row y)) m x N (h x p.taken) p.fresh in
          let s = p.shorter in
          rw (p.marks, p.stack) (omega arith);
      inside = inner;
    }
