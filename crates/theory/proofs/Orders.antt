-- The preorder law. Assumes nothing.
use Rattle.std.proofs.Common.{◌≡◌, ℕ, ◌+◌, ◌<◌, true, false, ◌⊎◌, List, [], ◌∷◌, ◌++◌, reverse, length, refl, ap, ◌∙◌, inl, inr, ⊎_elim, append-nil, arith, length-append}
use Rattle.std.proofs.lemmas.Bool.{cases_Bool, both_ways}
use Rattle.model.specs.Paths.{In, Distinct}
use Rattle.model.specs.Sets.{Set, add}
use Rattle.theory.specs.Search.{Rows, Within, Reach, start, along, visits, visit, preorder, PreorderLaw}
use Rattle.theory.specs.Walk.{left}
use Rattle.theory.proofs.Lists.{in_join, in_first, in_second, distinct_join, in_reverse, reverse_in}
use Rattle.theory.proofs.Sets.{add_same, add_cases, add_before, left_add, left_most}
use Rattle.theory.proofs.Search.{Dfs, over, skip, into, dfs_kept, dfs_same, total}

module _ (row : Rows) where
  dfs_back : {xs : List ℕ} {m m' : Set} {out : List ℕ} → Dfs row xs m m' out → (y : ℕ) → m' y ≡ false → m y ≡ false
  dfs_back {m = m} {m' = m'} d y k = ⊎_elim (λ (h : m y ≡ true). absurd (both_ways (m' y) k (dfs_kept row d y h))) (λ (h : m y ≡ false). h) (cases_Bool (m y))

  -- what is newly marked is discovered
  pub dfs_new : {xs : List ℕ} {m m' : Set} {out : List ℕ} → Dfs row xs m m' out → (y : ℕ) → m' y ≡ true → (m y ≡ true) ⊎ In y out
  dfs_new over y k = inl k
  dfs_new (skip u d) y k = dfs_new d y k
  dfs_new (into {x = x} {m = m} {m₁ = m₁} {a = a} {b = b} u d e) y k =
      ⊎_elim
      (λ (h : m₁ y ≡ true).
      ⊎_elim
      (λ (g : add m x y ≡ true). ⊎_elim (λ (q : y ≡ x). inr (inl q)) (λ (g : m y ≡ true). inl g) (add_cases m x y g))
      (λ (i : In y a). inr (inr (in_first y a b i)))
      (dfs_new d y h))
      (λ (i : In y b). inr (inr (in_second y a b i)))
      (dfs_new e y k)

  -- what is discovered was unmarked
  dfs_old : {xs : List ℕ} {m m' : Set} {out : List ℕ} → Dfs row xs m m' out → (y : ℕ) → In y out → m y ≡ false
  dfs_old over y i = absurd i
  dfs_old (skip u d) y i = dfs_old d y i
  dfs_old (into u d e) y (inl q) = rw q u
  dfs_old (into {x = x} {m = m} {a = a} {b = b} u d e) y (inr i) =
      ⊎_elim
      (λ (j : In y a). add_before m x y (dfs_old d y j))
      (λ (j : In y b). add_before m x y (dfs_back d y (dfs_old e y j)))
      (in_join y a b i)

  -- what is discovered is marked
  pub dfs_seen : {xs : List ℕ} {m m' : Set} {out : List ℕ} → Dfs row xs m m' out → (y : ℕ) → In y out → m' y ≡ true
  dfs_seen over y i = absurd i
  dfs_seen (skip u d) y i = dfs_seen d y i
  dfs_seen (into {x = x} {m = m} u d e) y (inl q) = rw q (dfs_kept row e x (dfs_kept row d x (add_same m x)))
  dfs_seen (into {a = a} {b = b} u d e) y (inr i) =
      ⊎_elim (λ (j : In y a). dfs_kept row e y (dfs_seen d y j)) (λ (j : In y b). dfs_seen e y j) (in_join y a b i)

  dfs_once : {xs : List ℕ} {m m' : Set} {out : List ℕ} → Dfs row xs m m' out → Distinct out
  dfs_once over = tt
  dfs_once (skip u d) = dfs_once d
  dfs_once (into {x = x} {m = m} {m₁ = m₁} {a = a} {b = b} u d e) = (
    λ i.
        ⊎_elim
        (λ (j : In x a). both_ways (add m x x) (dfs_old d x j) (add_same m x))
        (λ (j : In x b). both_ways (m₁ x) (dfs_old e x j) (dfs_kept row d x (add_same m x)))
        (in_join x a b i),
    distinct_join a b (dfs_once d) (dfs_once e) (λ y i j. both_ways (m₁ y) (dfs_old e y j) (dfs_seen d y i)),
  )

  -- every listed node is marked
  pub dfs_all : {xs : List ℕ} {m m' : Set} {out : List ℕ} → Dfs row xs m m' out → (y : ℕ) → In y xs → m' y ≡ true
  dfs_all over y i = absurd i
  dfs_all (skip u d) y (inl q) = dfs_kept row d y (rw q u)
  dfs_all (skip u d) y (inr i) = dfs_all d y i
  dfs_all (into {x = x} {m = m} u d e) y (inl q) = dfs_kept row e y (dfs_kept row d y (rw q (add_same m x)))
  dfs_all (into u d e) y (inr i) = dfs_all e y i

  -- every far node of a discovered node is marked
  dfs_closed : {xs : List ℕ} {m m' : Set} {out : List ℕ} → Dfs row xs m m' out → (y z : ℕ) → In y out → In z (row y) → m' z ≡ true
  dfs_closed over y z i j = absurd i
  dfs_closed (skip u d) y z i j = dfs_closed d y z i j
  dfs_closed (into {x = x} u d e) y z (inl q) j = dfs_kept row e z (dfs_all d z (reverse_in z (row x) (rw q at j)))
  dfs_closed (into {a = a} {b = b} u d e) y z (inr i) j =
      ⊎_elim (λ (k : In y a). dfs_kept row e z (dfs_closed d y z k j)) (λ (k : In y b). dfs_closed e y z k j) (in_join y a b i)

  -- every discovered node is reached, where the listed ones are
  dfs_from : (K : Set) (s : ℕ) {xs : List ℕ} {m m' : Set} {out : List ℕ} → Dfs row xs m m' out → ((y : ℕ) → m y ≡ false → K y ≡ false) → ((y : ℕ) → In y xs → m y ≡ false → Reach row K s y) → (y : ℕ) → In y out → Reach row K s y
  dfs_from K s over o h y i = absurd i
  dfs_from K s (skip u d) o h y i = dfs_from K s d o (λ z j. h z (inr j)) y i
  dfs_from K s (into {x = x} u d e) o h y (inl q) = rw q (h x (inl refl) u)
  dfs_from K s (into {x = x} {m = m} {a = a} {b = b} u d e) o h y (inr i) =
      let o₁ : (z : ℕ) → add m x z ≡ false → K z ≡ false = λ z k. o z (add_before m x z k) in
      ⊎_elim
      (λ (j : In y a). dfs_from K s d o₁ (λ z i k. along (h x (inl refl) u) (in_reverse z (row x) i) (o₁ z k)) y j)
      (λ (j : In y b). dfs_from K s e (λ z k. o₁ z (dfs_back d z k)) (λ z i k. h z (inr i) (add_before m x z (dfs_back d z k))) y j)
      (in_join y a b i)

  -- each discovered node was one of those that were left
  dfs_left : (N : ℕ) → Within row N → {xs : List ℕ} {m m' : Set} {out : List ℕ} → Dfs row xs m m' out → ((y : ℕ) → In y xs → y < N) → left (λ _. 1) m N ≡ length out + left (λ _. 1) m' N
  dfs_left N c over h = omega arith
  dfs_left N c (skip u d) h = dfs_left N c d (λ y i. h y (inr i))
  dfs_left N c (into {x = x} {m = m} {a = a} {b = b} u d e) h =
      let p = left_add (λ _. 1) m x N (h x (inl refl)) u in
      let q = dfs_left N c d (λ y i. c x y (in_reverse y (row x) i)) in
      let r = dfs_left N c e (λ y i. h y (inr i)) in
      let l = length-append a b in
      omega arith

  module _ {K m : Set} {s : ℕ} {out : List ℕ} (d : Dfs row (s ∷ []) K m out) where
    pub found : (y : ℕ) → m y ≡ true → K y ≡ false → In y out
    found y k n = ⊎_elim (λ (h : K y ≡ true). absurd (both_ways (K y) n h)) (λ (i : In y out). i) (dfs_new d y k)

    pub dfs_whole : {y : ℕ} → Reach row K s y → In y out
    dfs_whole (start n) = found s (dfs_all d s (inl refl)) n
    dfs_whole (along {x = x} {y = y} r i n) = found y (dfs_closed d x y (dfs_whole r) i) n

    pub dfs_sound : (y : ℕ) → In y out → Reach row K s y
    dfs_sound = dfs_from K s d (λ y n. n) (λ y. elim [ inl e ↦ (λ k. rw e (start (rw e at k))) | inr i ↦ elim i [ ] ])

pub preorder_law : PreorderLaw
preorder_law row N c K s h =
    let w : (y : ℕ) → In y (s ∷ []) → y < N = λ y. elim [ inl e ↦ rw e h | inr i ↦ elim i [ ] ] in
    let d : Dfs row (s ∷ []) K (visit row N s K).seen (preorder row N K s) = rw append-nil at (total row N N c (s ∷ []) K (left_most K N) w) in
    record {
      once = dfs_once row d;
      few = omega (arith, dfs_left row N c d w, left_most K N);
      sound = dfs_sound row d;
      whole = λ y r. dfs_whole row d r;
      unfolds = λ n.
          let e = total row N N c (reverse (row s)) (add K s) (left_most (add K s) N) (λ y i. c s y (in_reverse y (row s) i)) in
          let f : Dfs row (s ∷ []) K (visits (visit row N) (reverse (row s)) (add K s)).seen (s ∷ ((visits (visit row N) (reverse (row s)) (add K s)).shown ++ [])) = into n e over in
          (dfs_same row d f).1 ∙ ap (λ xs. s ∷ xs) (append-nil (visits (visit row N) (reverse (row s)) (add K s)).shown);
    }
