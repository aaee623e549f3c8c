-- The name law. Assumes nothing.
use Rattle.std.proofs.Common.{◌≡◌, ℕ, Bool, true, false, cond, ◌⊎◌, List, [], ◌∷◌, Some, None, Option, refl, inl, inr, ⊎_elim, arith}
use Rattle.std.proofs.lemmas.Bool.Decides.{nat_tests}
use Rattle.std.proofs.lemmas.Bool.{both_ways, cases_Bool}
use Rattle.model.specs.Paths.{In, Distinct}
use Rattle.model.specs.Sets.{Set, nothing, add}
use Rattle.theory.specs.Search.{Rows, Reach, start, visits, visit}
use Rattle.theory.specs.Order.{order, OnCycle, Forward, member, first_loop, last_outside, or_else, late, named, Back, NameLaw}
use Rattle.theory.proofs.Sets.{add_same, add_kept, add_cases, left_most}
use Rattle.theory.proofs.Members.{in_member, member_in}
use Rattle.theory.proofs.Search.{total}
use Rattle.theory.proofs.Orders.{dfs_new, dfs_all}
use Rattle.theory.proofs.Finish.{Tied}
use Rattle.theory.proofs.Forwards.{forward_acyclic, order_once, order_all, order_tied}

or_none : (a b : Option ℕ) → or_else a b ≡ None → (a ≡ None) × (b ≡ None)
or_none None b e = (refl, e)
or_none (Some j) b e = absurd (let z : ◌≡◌ {A = ℕ} 0 1 = cc in omega arith)

or_some : (a b : Option ℕ) (j : ℕ) → or_else a b ≡ Some j → (a ≡ Some j) ⊎ (b ≡ Some j)
or_some None b j e = inr e
or_some (Some k) b j e = inl e

-- a self-loop is found where there is one
loop_none : (row : Rows) (l : List ℕ) → first_loop row l ≡ None → (x : ℕ) → In x l → In x (row x) → ⊥
loop_none row [] e x i j = i
loop_none row (z ∷ l) e x i j = go (member z (row z)) refl e i (λ e i. loop_none row l e x i j)
  where
    go : (b : Bool) → member z (row z) ≡ b → cond b (Some z) (first_loop row l) ≡ None → In x (z ∷ l) → (first_loop row l ≡ None → In x l → ⊥) → ⊥
    go true k e i f = let t : ◌≡◌ {A = ℕ} 0 1 = cc in omega arith
    go false k e (inl q) f = both_ways (member z (row z)) k (in_member z (row z) (rw q at j))
    go false k e (inr i) f = f e i

loop_some : (row : Rows) (l : List ℕ) (j : ℕ) → first_loop row l ≡ Some j → In j (row j)
loop_some row [] j e = absurd (let z : ◌≡◌ {A = ℕ} 0 1 = cc in omega arith)
loop_some row (z ∷ l) j e = go (member z (row z)) refl e (loop_some row l j)
  where
    go : (b : Bool) → member z (row z) ≡ b → cond b (Some z) (first_loop row l) ≡ Some j → (first_loop row l ≡ Some j → In j (row j)) → In j (row j)
    go true k e f = let q : z ≡ j = cc in rw (← q) (member_in z (row z) k)
    go false k e f = f e

-- the last one outside is one of them, and outside
outside_none : (m : Set) (ys : List ℕ) (o : Option ℕ) → last_outside m ys o ≡ None → (o ≡ None) × ((y : ℕ) → In y ys → m y ≡ true)
outside_none m [] o e = (e, λ y i. absurd i)
outside_none m (z ∷ ys) o e = go (m z) refl (outside_none m ys _ e)
  where
    go : (b : Bool) → m z ≡ b → (cond b o (Some z) ≡ None) × ((y : ℕ) → In y ys → m y ≡ true) → (o ≡ None) × ((y : ℕ) → In y (z ∷ ys) → m y ≡ true)
    go true k p = (p.0, λ y. elim [ inl q ↦ rw q k | inr i ↦ p.1 y i ])
    go false k p = let e₁ = p.0 in absurd (let t : ◌≡◌ {A = ℕ} 0 1 = cc in omega arith)

outside_some : (m : Set) (ys : List ℕ) (o : Option ℕ) (j : ℕ) → last_outside m ys o ≡ Some j → (o ≡ Some j) ⊎ (In j ys × (m j ≡ false))
outside_some m [] o j e = inl e
outside_some m (z ∷ ys) o j e = go (m z) refl (outside_some m ys _ j e)
  where
    go : (b : Bool) → m z ≡ b → (cond b o (Some z) ≡ Some j) ⊎ (In j ys × (m j ≡ false)) → (o ≡ Some j) ⊎ (In j (z ∷ ys) × (m j ≡ false))
    go true k (inl e) = inl e
    go false k (inl e) = let q : j ≡ z = cc in inr (inl q, rw q k)
    go b k (inr p) = inr (inr p.0, p.1)

module _ (row back : Rows) (turned : Back row back) where
  -- m holds the nodes before l, and whatever leads to one of them
  pass : (m : Set) (l : List ℕ) → ((x : ℕ) → In x (row x) → ⊥) → ((x y : ℕ) → In y (row x) → (m y ≡ true) ⊎ In y l) → ((x y : ℕ) → In y (row x) → m y ≡ true → m x ≡ true) → ((x : ℕ) → In x l → m x ≡ false) → Distinct l → late back m l ≡ None → Forward row l
  pass m [] s a c f p e = tt
  pass m (x ∷ l) s a c f p e =
      let q = or_none (last_outside (add m x) (back x) None) (late back (add m x) l) e in
      let w = (outside_none (add m x) (back x) None q.0).1 in (
        λ y i.
            ⊎_elim
            (λ (k : m y ≡ true). absurd (both_ways (m x) (f x (inl refl)) (c x y i k)))
            (⊎_elim (λ (r : y ≡ x). absurd (s x (rw r at i))) (λ (j : In y l). j))
            (a x y i),
        pass (add m x) l s
            (λ z y i.
            ⊎_elim
            (λ (k : m y ≡ true). inl (add_kept m x y k))
            (⊎_elim (λ (r : y ≡ x). inl (rw r (add_same m x))) (λ (j : In y l). inr j))
            (a z y i))
            (λ z y i k.
            ⊎_elim
            (λ (r : y ≡ x). w z (rw r at (turned.there z y i)))
            (λ (k : m y ≡ true). add_kept m x z (c z y i k))
            (add_cases m x y k))
            (λ z i.
            ⊎_elim
            (λ (k : add m x z ≡ true). absurd (⊎_elim (λ (r : z ≡ x). p.0 (rw r at i)) (both_ways (m z) (f z (inr i))) (add_cases m x z k)))
            (λ (n : add m x z ≡ false). n)
            (cases_Bool (add m x z)))
            p.1
            q.1,
      )

  tied_at : (l : List ℕ) → Tied row l → (i j : ℕ) → In j l → In i (row j) → (In i l → ⊥) → Reach row nothing i j
  tied_at [] t i j k e n = absurd k
  tied_at (x ∷ l) t i j (inl q) e n = rw q (⊎_elim (λ (h : In i l). absurd (n (inr h))) (λ (w : Reach row nothing i x). w) (t.0 i (rw q at e)))
  tied_at (x ∷ l) t i j (inr k) e n = tied_at l t.1 i j k e (λ h. n (inr h))

  fail : (m : Set) (l : List ℕ) → ((x y : ℕ) → In y (row x) → (m x ≡ true) ⊎ In x l) → Distinct l → Tied row l → (j : ℕ) → late back m l ≡ Some j → OnCycle row j
  fail m [] a p t j e = absurd (let z : ◌≡◌ {A = ℕ} 0 1 = cc in omega arith)
  fail m (x ∷ l) a p t j e = ⊎_elim here (fail (add m x) l rest p.1 t.1 j) (or_some (last_outside (add m x) (back x) None) (late back (add m x) l) j e)
    where
      rest : (z y : ℕ) → In y (row z) → (add m x z ≡ true) ⊎ In z l
      rest z y i = let b = a z y i in grind (arith, nat_tests)

      at : In j (back x) × (add m x j ≡ false) → OnCycle row j
      at q =
          let edge : In x (row j) = turned.here j x q.0 in
          let after : In j l = ⊎_elim (λ (k : add m x j ≡ true). absurd (both_ways (add m x j) q.1 k)) (λ (h : In j l). h) (rest j x edge) in
          (x, (edge, tied_at l t.1 x j after edge p.0))

      here : last_outside (add m x) (back x) None ≡ Some j → OnCycle row j
      here q =
          ⊎_elim
          (λ (n : None ≡ Some j). absurd (let z : ◌≡◌ {A = ℕ} 0 1 = cc in omega arith))
          at
          (outside_some (add m x) (back x) None j q)

pub name_law : NameLaw
name_law row back N nodes h c₀ c turned =
    let l = order row N nodes in
    let seen = (visits (visit row N) nodes nothing).shown in
    let d = total row N N (λ x y i. h y (c x y i)) nodes nothing (left_most nothing N) h in
    let shown : (y : ℕ) → In y nodes → In y seen =
    λ y i.
    ⊎_elim (λ (k : nothing y ≡ true). absurd (both_ways (nothing y) refl k)) (λ (j : In y seen). j) (dfs_new row d y (dfs_all row d y i)) in
    let once = order_once row N nodes h c in
    let all = order_all row N nodes h c in
    let none : named row back N nodes ≡ None → Forward row l =
    λ e.
    let q = or_none (first_loop row seen) (late back nothing l) e in
    pass row back turned nothing l
    (λ x i. loop_none row seen q.0 x (shown x (c₀ x x i)) i)
    (λ x y i. inr (all y (c x y i)))
    (λ x y i k. absurd (both_ways (nothing y) refl k))
    (λ x i. refl)
    once
    q.1 in
    record {
      none = none;
      cycle =
          λ j e.
          ⊎_elim
          (λ (k : first_loop row seen ≡ Some j). (j, (loop_some row seen j k, start refl)))
          (fail row back turned nothing l (λ x y i. inr (all x (c₀ x y i))) once (order_tied row N nodes h c) j)
          (or_some (first_loop row seen) (late back nothing l) j e);
      some = λ x k e. forward_acyclic row l (none e) once x (all x (c₀ x k.0 k.1.0)) k;
    }
