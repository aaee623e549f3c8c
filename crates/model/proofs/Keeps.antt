-- Filtered rows: what they hold, from which place on, and how often an edge stands in them. Assumes nothing.
use Rattle.std.proofs.Common.{◌≡◌, ℕ, ◌+◌, ◌≤◌, Bool, true, false, cond, eqb, leb, List, [], ◌∷◌, Some, sym, refl, ap, ◌∙◌, inl, inr, ⊎_elim, arith}
use Rattle.std.proofs.lemmas.Bool.{cases_Bool, leb-true, leb-false, eqb-true}
use Rattle.std.specs.List.{find}
use Rattle.model.specs.Model.{Entry, Ascends, from, front, count_of}
use Rattle.model.specs.Paths.{Leads}
use Rattle.model.specs.Views.{keep}
use Rattle.model.proofs.Rows.{from_low, from_skip, from_stop}

ascends_less : (less low : ℕ) (xs : List Entry) → less ≤ low → Ascends low xs → Ascends less xs
ascends_less less low [] h a = omega arith
ascends_less less low (x ∷ xs) h a = (omega (arith, a.0), a.1)

module _ (p : Entry → Bool) where
  pub keep_ascends : (low : ℕ) (xs : List Entry) → Ascends low xs → Ascends low (keep p xs)
  keep_ascends low [] a = a
  keep_ascends low (x ∷ xs) a =
      let r = keep_ascends (x.0 + 1) xs a.1 in
      elim (p x) as (λ b. Ascends low (cond b (x ∷ keep p xs) (keep p xs))) [ true ↦ (a.0, r) | false ↦ ascends_less low (x.0 + 1) (keep p xs) (omega (arith, a.0)) r ]

  -- what a filtered row has from a place on
  pub keep_from : (low : ℕ) (xs : List Entry) (q : ℕ) → Ascends low xs → from (keep p xs) q ≡ keep p (from xs q)
  keep_from low [] q a = refl
  keep_from low (x ∷ xs) q a =
      ⊎_elim
      (λ (t : leb q x.0 ≡ true).
      let h = leb-true q x.0 t in
      let w = ascends_less q x.0 (x ∷ xs) h (omega arith, a.1) in
      from_low q q (keep p (x ∷ xs)) (keep_ascends q (x ∷ xs) w) (omega arith) ∙ ap (keep p) (sym (from_stop x xs q h)))
      (λ (t : leb q x.0 ≡ false).
      let h = leb-false q x.0 t in
      let r = keep_from (x.0 + 1) xs q a.1 in
      let s : from (keep p (x ∷ xs)) q ≡ from (keep p xs) q = elim (p x) as (λ b. from (cond b (x ∷ keep p xs) (keep p xs)) q ≡ from (keep p xs) q) [ true ↦ from_skip x (keep p xs) q h | false ↦ refl ] in
      s ∙ r ∙ ap (keep p) (sym (from_skip x xs q h)))
      (cases_Bool (leb q x.0))

  -- the first entry that passes, at or after a place
  find_front : (xs : List Entry) → find p xs ≡ front (keep p xs)
  find_front [] = refl
  find_front (x ∷ xs) = elim (p x) as (λ b. cond b (Some x) (find p xs) ≡ front (cond b (x ∷ keep p xs) (keep p xs))) [ true ↦ refl | false ↦ find_front xs ]

  pub find_kept : (xs : List Entry) (q : ℕ) → Ascends 0 xs → find p (from xs q) ≡ front (from (keep p xs) q)
  find_kept xs q a = find_front (from xs q) ∙ ap front (sym (keep_from 0 xs q a))

  -- a filter that keeps every entry
  pub keep_all : (xs : List Entry) → ((e b : ℕ) (x : Entry) → Leads e b xs → x.1 ≡ e → x.2 ≡ b → p x ≡ true) → keep p xs ≡ xs
  keep_all [] h = refl
  keep_all (x ∷ xs) h = rw (h x.1 x.2 x (inl (refl, refl)) refl refl) (ap (λ ys. x ∷ ys) (keep_all xs (λ e b y i. h e b y (inr i))))

  -- entries of one edge are all kept or all dropped
  pub keep_count : (e : ℕ) (b : Bool) (xs : List Entry) → ((y : ℕ) (x : Entry) → Leads e y xs → x.1 ≡ e → x.2 ≡ y → p x ≡ b) → count_of e (keep p xs) ≡ cond b (count_of e xs) 0
  keep_count e true [] h = refl
  keep_count e false [] h = refl
  keep_count e b (x ∷ xs) h =
      let r = keep_count e b xs (λ y z i. h y z (inr i)) in
      ⊎_elim
      (λ (t : eqb x.1 e ≡ true).
      let q = h x.2 x (inl (eqb-true x.1 e t, refl)) (eqb-true x.1 e t) refl in
      hit b q t r)
      (λ (t : eqb x.1 e ≡ false).
      ⊎_elim
      (λ (y : p x ≡ true). rw (y, t) r)
      (λ (y : p x ≡ false). rw (y, t) r)
      (cases_Bool (p x)))
      (cases_Bool (eqb x.1 e))
    where
      hit : (b : Bool) → p x ≡ b → eqb x.1 e ≡ true → count_of e (keep p xs) ≡ cond b (count_of e xs) 0 → count_of e (keep p (x ∷ xs)) ≡ cond b (count_of e (x ∷ xs)) 0
      hit true q t r = rw (q, t) (ap (λ n. 1 + n) r)
      hit false q t r = rw q r

  pub keep_none : (e : ℕ) (xs : List Entry) → count_of e xs ≡ 0 → count_of e (keep p xs) ≡ 0
  keep_none e [] h = refl
  keep_none e (x ∷ xs) h =
      ⊎_elim
      (λ (t : eqb x.1 e ≡ true). let k : 1 + count_of e xs ≡ 0 = rw t at h in absurd (omega arith))
      (λ (t : eqb x.1 e ≡ false).
      let r = keep_none e xs (rw t at h) in
      ⊎_elim
      (λ (y : p x ≡ true). rw (y, t) r)
      (λ (y : p x ≡ false). rw y r)
      (cases_Bool (p x)))
      (cases_Bool (eqb x.1 e))

  -- which entries are kept
  pub keep_leads : (e b : ℕ) (xs : List Entry) → Leads e b (keep p xs) → Leads e b xs × ((x : Entry) × ((x.1 ≡ e) × (x.2 ≡ b) × (p x ≡ true)))
  keep_leads e b [] i = absurd i
  keep_leads e b (x ∷ xs) i =
      ⊎_elim
      (λ (y : p x ≡ true).
      let j : Leads e b (x ∷ keep p xs) = rw y at i in
      ⊎_elim
      (λ (q : (x.1 ≡ e) × (x.2 ≡ b)). (inl q, (x, (q.0, q.1, y))))
      (λ (k : Leads e b (keep p xs)). let r = keep_leads e b xs k in (inr r.0, r.1))
      j)
      (λ (y : p x ≡ false). let r = keep_leads e b xs (rw y at i) in (inr r.0, r.1))
      (cases_Bool (p x))

  pub leads_keep : (e b : ℕ) (xs : List Entry) → Leads e b xs → ((x : Entry) → x.1 ≡ e → x.2 ≡ b → p x ≡ true) → Leads e b (keep p xs)
  leads_keep e b [] i h = absurd i
  leads_keep e b (x ∷ xs) (inl q) h = rw (h x q.0 q.1) (inl q)
  leads_keep e b (x ∷ xs) (inr i) h =
      let r = leads_keep e b xs i h in
      elim (p x) as (λ t. Leads e b (cond t (x ∷ keep p xs) (keep p xs))) [ true ↦ inr r | false ↦ r ]
