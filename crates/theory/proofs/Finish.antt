-- The finishing search as a derivation, what holds of it, and that `finishes` computes it. Assumes nothing.
use Rattle.std.proofs.Common.{◌≡◌, ℕ, zero, suc, ◌<◌, ◌≤◌, Bool, true, false, cond, ◌⊎◌, List, [], ◌∷◌, reverse, refl, inl, inr, ⊎_elim, arith}
use Rattle.std.proofs.lemmas.Bool.Decides.{nat_tests}
use Rattle.std.proofs.lemmas.Bool.{cases_Bool, both_ways}
use Rattle.model.specs.Paths.{In, Distinct}
use Rattle.model.specs.Sets.{Set, nothing, add}
use Rattle.theory.specs.Search.{Rows, Within, Reach, start, along}
use Rattle.theory.specs.Walk.{left}
use Rattle.theory.specs.Order.{Finished, finishes, finish}
use Rattle.theory.proofs.Lists.{in_reverse, reverse_in}
use Rattle.theory.proofs.Sets.{add_same, add_kept, add_cases, left_add, left_less}
use Rattle.theory.proofs.Members.{in_cases}

-- from the marks m and the finished nodes out the listed nodes are finished in turn, to m' and out'
pub data Fin (row : Rows) : List ℕ → Set → List ℕ → Set → List ℕ → Type 0 where
  over : {m : Set} {out : List ℕ} → Fin row [] m out m out
  skip : {x : ℕ} {xs : List ℕ} {m : Set} {out : List ℕ} {m' : Set} {out' : List ℕ} → m x ≡ true → Fin row xs m out m' out' → Fin row (x ∷ xs) m out m' out'
  into : {x : ℕ} {xs : List ℕ} {m : Set} {out : List ℕ} {m₁ : Set} {out₁ : List ℕ} {m' : Set} {out' : List ℕ} → m x ≡ false → Fin row (reverse (row x)) (add m x) out m₁ out₁ → Fin row xs m₁ (x ∷ out₁) m' out' → Fin row (x ∷ xs) m out m' out'

module _ (row : Rows) where
  pub fin_kept : {xs : List ℕ} {m : Set} {out : List ℕ} {m' : Set} {out' : List ℕ} → Fin row xs m out m' out' → (y : ℕ) → m y ≡ true → m' y ≡ true
  fin_kept over y k = k
  fin_kept (skip u d) y k = fin_kept d y k
  fin_kept (into {x = x} {m = m} u d e) y k = fin_kept e y (fin_kept d y (add_kept m x y k))

  pub fin_held : {xs : List ℕ} {m : Set} {out : List ℕ} {m' : Set} {out' : List ℕ} → Fin row xs m out m' out' → (y : ℕ) → In y out → In y out'
  fin_held over y i = i
  fin_held (skip u d) y i = fin_held d y i
  fin_held (into u d e) y i = fin_held e y (inr (fin_held d y i))

  -- what is newly marked is finished
  pub fin_new : {xs : List ℕ} {m : Set} {out : List ℕ} {m' : Set} {out' : List ℕ} → Fin row xs m out m' out' → (y : ℕ) → m' y ≡ true → (m y ≡ true) ⊎ In y out'
  fin_new over y k = inl k
  fin_new (skip u d) y k = fin_new d y k
  fin_new (into u d e) y k = let a = fin_new e y k in let b = fin_new d y in let c = fin_held e y in grind (arith, nat_tests)

  -- what is newly finished was unmarked
  pub fin_old : {xs : List ℕ} {m : Set} {out : List ℕ} {m' : Set} {out' : List ℕ} → Fin row xs m out m' out' → (y : ℕ) → In y out' → In y out ⊎ (m y ≡ false)
  fin_old over y i = inl i
  fin_old (skip u d) y i = fin_old d y i
  fin_old (into u d e) y i = let a = fin_old e y i in let b = fin_old d y in let c = fin_kept d y in grind (arith, nat_tests)

  -- what is finished is marked
  pub fin_seen : {xs : List ℕ} {m : Set} {out : List ℕ} {m' : Set} {out' : List ℕ} → Fin row xs m out m' out' → ((y : ℕ) → In y out → m y ≡ true) → (y : ℕ) → In y out' → m' y ≡ true
  fin_seen over h = h
  fin_seen (skip u d) h = fin_seen d h
  fin_seen (into {x = x} {m = m} u d e) h =
      fin_seen e (λ y i. let a = fin_seen d (λ z j. add_kept m x z (h z j)) y in let b = fin_kept d y in grind (arith, nat_tests))

  -- every listed node is marked
  pub fin_all : {xs : List ℕ} {m : Set} {out : List ℕ} {m' : Set} {out' : List ℕ} → Fin row xs m out m' out' → (y : ℕ) → In y xs → m' y ≡ true
  fin_all over y i = absurd i
  fin_all (skip u d) y (inl q) = fin_kept d y (rw q u)
  fin_all (skip u d) y (inr i) = fin_all d y i
  fin_all (into {x = x} {m = m} u d e) y (inl q) = fin_kept e y (fin_kept d y (rw q (add_same m x)))
  fin_all (into u d e) y (inr i) = fin_all e y i

  -- x is not finished while its far nodes are
  pub fin_open : {xs : List ℕ} {m : Set} {out : List ℕ} {m₁ : Set} {out₁ : List ℕ} (x : ℕ) → m x ≡ false → Fin row xs (add m x) out m₁ out₁ → ((y : ℕ) → In y out → m y ≡ true) → In x out₁ → ⊥
  fin_open {m = m} {out = out} x u d h i =
      ⊎_elim (λ (j : In x out). both_ways (m x) u (h x j)) (λ (k : add m x x ≡ false). both_ways (add m x x) k (add_same m x)) (fin_old d x i)

  pub fin_once : {xs : List ℕ} {m : Set} {out : List ℕ} {m' : Set} {out' : List ℕ} → Fin row xs m out m' out' → ((y : ℕ) → In y out → m y ≡ true) → Distinct out → Distinct out'
  fin_once over h a = a
  fin_once (skip u d) h a = fin_once d h a
  fin_once (into {x = x} {m = m} {out = out} u d e) h a =
      let h₁ : (y : ℕ) → In y out → add m x y ≡ true = λ y i. add_kept m x y (h y i) in
      fin_once e (λ y. elim [ inl q ↦ rw q (fin_kept d x (add_same m x)) | inr i ↦ fin_seen d h₁ y i ]) (fin_open x u d h, fin_once d h₁ a)

  -- what is finished has what the listed and all far nodes have
  pub fin_only : {xs : List ℕ} {m : Set} {out : List ℕ} {m' : Set} {out' : List ℕ} → (P : ℕ → Type 0) → ((x y : ℕ) → In y (row x) → P y) → Fin row xs m out m' out' → ((y : ℕ) → In y xs → P y) → ((y : ℕ) → In y out → P y) → (y : ℕ) → In y out' → P y
  fin_only P c over h k = k
  fin_only P c (skip u d) h k = fin_only P c d (λ y i. h y (inr i)) k
  fin_only P c (into {x = x} u d e) h k =
      fin_only P c e
      (λ y i. h y (inr i))
      (λ y. elim [ inl q ↦ h y (inl q) | inr i ↦ fin_only P c d (λ z j. c x z (in_reverse z (row x) j)) k y i ])

  -- each far node of a finished node is finished before it, or a path leads back from there
  abbrev pub Tied : List ℕ → Type 0
  Tied [] = Unit {0}
  Tied (x ∷ xs) = ((y : ℕ) → In y (row x) → In y xs ⊎ Reach row nothing y x) × Tied xs

  pub fin_tied : {xs : List ℕ} {m : Set} {out : List ℕ} {m' : Set} {out' : List ℕ} → Fin row xs m out m' out' → ((g x : ℕ) → m g ≡ true → (In g out → ⊥) → In x xs → Reach row nothing g x) → Tied out → Tied out'
  fin_tied over h t = t
  fin_tied (skip u d) h t = fin_tied d (λ g x k n i. h g x k n (inr i)) t
  fin_tied (into {x = x} {xs = xs} {m = m} {out = out} {m₁ = m₁} {out₁ = out₁} u d e) h t = fin_tied e later (far, fin_tied d deeper t)
    where
      deeper : (g z : ℕ) → add m x g ≡ true → (In g out → ⊥) → In z (reverse (row x)) → Reach row nothing g z
      deeper g z k n i =
          let j = in_reverse z (row x) i in
          ⊎_elim
          (λ (q : g ≡ x). rw q (along (start refl) j refl))
          (λ (k : m g ≡ true). along (h g x k n (inl refl)) j refl)
          (add_cases m x g k)

      later : (g z : ℕ) → m₁ g ≡ true → (In g (x ∷ out₁) → ⊥) → In z xs → Reach row nothing g z
      later g z k n i =
          ⊎_elim
          (λ (k : add m x g ≡ true).
          ⊎_elim (λ (q : g ≡ x). absurd (n (inl q))) (λ (k : m g ≡ true). h g z k (λ j. n (inr (fin_held d g j))) (inr i)) (add_cases m x g k))
          (λ (j : In g out₁). absurd (n (inr j)))
          (fin_new d g k)

      before : (y : ℕ) → m y ≡ true → In y out₁ ⊎ Reach row nothing y x
      before y k = ⊎_elim (λ (i : In y out). inl (fin_held d y i)) (λ (n : In y out → ⊥). inr (h y x k n (inl refl))) (in_cases y out)

      far : (y : ℕ) → In y (row x) → In y out₁ ⊎ Reach row nothing y x
      far y i =
          ⊎_elim
          (λ (k : add m x y ≡ true). ⊎_elim (λ (q : y ≡ x). inr (rw q (start refl))) (before y) (add_cases m x y k))
          (λ (j : In y out₁). inl j)
          (fin_new d y (fin_all d y (reverse_in y (row x) i)))

  -- with enough fuel the function computes the derivation
  abbrev Total : ℕ → ℕ → Type 0
  Total N k =
      (xs : List ℕ) (v : Finished) → left (λ _. 1) v.seen N ≤ k → ((y : ℕ) → In y xs → y < N) → Fin row xs v.seen v.order (finishes (finish row k) xs v).seen (finishes (finish row k) xs v).order

  total_zero : (N : ℕ) → Total N 0
  total_zero N [] v h w = over
  total_zero N (x ∷ xs) v h w =
      ⊎_elim
      (λ (k : v.seen x ≡ true). skip k (total_zero N xs v h (λ y i. w y (inr i))))
      (λ (k : v.seen x ≡ false). absurd (omega (arith, left_add (λ _. 1) v.seen x N (w x (inl refl)) k)))
      (cases_Bool (v.seen x))

  total_suc : (N k : ℕ) → Within row N → Total N k → Total N (suc k)
  total_suc N k c f [] v h w = over
  total_suc N k c f (x ∷ xs) v h w = go (v.seen x) refl (λ z l. total_suc N k c f xs z l (λ y i. w y (inr i)))
    where
      v₁ : Finished
      v₁ = record { seen = add v.seen x; order = v.order }

      v₂ : Finished
      v₂ = finishes (finish row k) (reverse (row x)) v₁

      v₃ : Finished
      v₃ = record { seen = v₂.seen; order = x ∷ v₂.order }

      go : (b : Bool) → v.seen x ≡ b → ((z : Finished) → left (λ _. 1) z.seen N ≤ suc k → Fin row xs z.seen z.order (finishes (finish row (suc k)) xs z).seen (finishes (finish row (suc k)) xs z).order) → Fin row (x ∷ xs) v.seen v.order (finishes (finish row (suc k)) xs (cond b v v₃)).seen (finishes (finish row (suc k)) xs (cond b v v₃)).order
      go true u g = skip u (g v h)
      go false u g =
          let a = left_add (λ _. 1) v.seen x N (w x (inl refl)) u in
          let d = f (reverse (row x)) v₁ (omega arith) (λ y i. c x y (in_reverse y (row x) i)) in
          let b = left_less (λ _. 1) v₁.seen v₂.seen N (fin_kept d) in
          into u d (g v₃ (omega arith))

  pub total : (N k : ℕ) → Within row N → Total N k
  total N zero c = total_zero N
  total N (suc k) c = total_suc N k c (total N k c)
