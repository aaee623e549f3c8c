-- A search that meets no entry to an open node finishes every node after all that its edges lead to. Assumes nothing.
use Rattle.std.proofs.Common.{◌≡◌, ℕ, Bool, true, false, cond, ◌⊎◌, List, [], ◌∷◌, Option, refl, inl, inr, ⊎_elim}
use Rattle.std.proofs.lemmas.Bool.{cases_Bool, both_ways}
use Rattle.model.specs.Paths.{In}
use Rattle.model.specs.Sets.{Set, add}
use Rattle.theory.specs.Search.{Rows}
use Rattle.theory.specs.Walk.{pushed}
use Rattle.theory.specs.Order.{member}
use Rattle.theory.proofs.Sets.{add_cases, add_before}
use Rattle.theory.proofs.Members.{member_in}
use Rattle.order.specs.Search.{Held, Onward}

module _ (row : Rows) where
  held_more : (m : Set) (out out' : List ℕ) (above above' l : List ℕ) → ((y : ℕ) → In y out → In y out') → ((y : ℕ) → In y above → In y out' ⊎ In y above') → ((x : ℕ) → member x out' ≡ false → member x out ≡ false) → Held row m out above l → Held row m out' above' l
  held_more m out out' above above' [] f g h k = tt
  held_more m out out' above above' (x ∷ l) f g h k = (
    λ t u y i. ⊎_elim (λ (j : In y out). inl (f y j)) (λ (j : In y above). g y j) (k.0 t (h x u) y i),
    held_more m out out' (x ∷ above) (x ∷ above') l f
        (λ y. elim [ inl e ↦ inr (inl e) | inr j ↦ ⊎_elim (λ (p : In y out'). inl p) (λ (p : In y above'). inr (inr p)) (g y j) ])
        h
        k.1,
  )

  -- x is marked, and what its edges lead to is finished or stands above
  held_mark : (m : Set) (out : List ℕ) (x : ℕ) (above above' l : List ℕ) → ((y : ℕ) → In y above → In y above') → ((y : ℕ) → In y (row x) → In y out ⊎ In y above') → Held row m out above l → Held row (add m x) out above' l
  held_mark m out x above above' [] f c k = tt
  held_mark m out x above above' (z ∷ l) f c k = (
    λ t u y i.
        ⊎_elim
        (λ (e : z ≡ x). c y (rw e at i))
        (λ (t' : m z ≡ true). ⊎_elim (λ (j : In y out). inl j) (λ (j : In y above). inr (f y j)) (k.0 t' u y i))
        (add_cases m x z t),
    held_mark m out x (z ∷ above) (z ∷ above') l
        (λ y. elim [ inl e ↦ inl e | inr j ↦ inr (f y j) ])
        (λ y i. ⊎_elim (λ (j : In y out). inl j) (λ (j : In y above'). inr (inr j)) (c y i))
        k.1,
  )

  held_push : (s : Set) (out ys st a : List ℕ) → ((ab : List ℕ) → ((y : ℕ) → In y a → In y ab) → ((y : ℕ) → In y ys → s y ≡ false → In y ab) → Held row s out ab st) → Held row s out a (pushed s ys st)
  held_push s out [] st a h = h a (λ y i. i) (λ y i. absurd i)
  held_push s out (y ∷ ys) st a h = held_push s out ys (cond (s y) st (y ∷ st)) a (λ ab i f. go ab i f (s y) refl)
    where
      go : (ab : List ℕ) → ((z : ℕ) → In z a → In z ab) → ((z : ℕ) → In z ys → s z ≡ false → In z ab) → (b : Bool) → s y ≡ b → Held row s out ab (cond b st (y ∷ st))
      go ab i f true e = h ab i (λ z. elim [ inl q ↦ λ u. absurd (both_ways (s y) (rw q at u) e) | inr j ↦ f z j ])
      go ab i f false e = (λ t. absurd (both_ways (s y) e t), h (y ∷ ab) (λ z j. inr (i z j)) (λ z. elim [ inl q ↦ λ u. inl q | inr j ↦ λ u. inr (f z j u) ]))

  pub onward_new : (m : Set) (x : ℕ) (st out : List ℕ) (o o' : Option ℕ) → m x ≡ false → ((y : ℕ) → In y (row x) → add m x y ≡ true → In y out) → Onward row (record { seen = m; stack = x ∷ st; order = out; looped = o }) → Onward row (record { seen = add m x; stack = pushed (add m x) (row x) (x ∷ st); order = out; looped = o' })
  onward_new m x st out o o' u q t = record {
    forward = t.forward;
    held =
        held_push (add m x) out (row x) (x ∷ st) []
        (λ ab i f.
        held_mark m out x [] ab (x ∷ st)
        (λ y j. absurd j)
        (λ y j. ⊎_elim (λ (k : add m x y ≡ true). inl (q y j k)) (λ (k : add m x y ≡ false). inr (f y j k)) (cases_Bool (add m x y)))
        t.held);
  }

  pub onward_old : (m : Set) (x : ℕ) (st out : List ℕ) (o : Option ℕ) → m x ≡ true → (b : Bool) → member x out ≡ b → Onward row (record { seen = m; stack = x ∷ st; order = out; looped = o }) → Onward row (record { seen = m; stack = st; order = cond b out (x ∷ out); looped = o })
  onward_old m x st out o u true e t = record {
    forward = t.forward;
    held = held_more m out out (x ∷ []) [] st (λ y j. j) (λ y. elim [ inl q ↦ inl (rw q (member_in x out e)) | inr j ↦ absurd j ]) (λ z k. k) t.held.1;
  }
  onward_old m x st out o u false e t = record {
    forward = (λ y i. ⊎_elim (λ (j : In y out). j) (λ (j : ⊥). absurd j) (t.held.0 u e y i), t.forward);
    held = held_more m out (x ∷ out) (x ∷ []) [] st (λ y j. inr j) (λ y. elim [ inl q ↦ inl (inl q) | inr j ↦ absurd j ]) (λ z k. add_before (λ y. member y out) x z k) t.held.1;
  }
