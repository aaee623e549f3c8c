-- The low-point search as a derivation, and what holds of marks, numbers and low points. Assumes nothing.
use Rattle.std.proofs.Common.{◌≡◌, ℕ, ◌<◌, ◌≤◌, min, true, false, List, [], ◌∷◌, refl, ap, ◌∙◌, inl, inr, ⊎_elim, arith}
use Rattle.std.proofs.lemmas.Bool.Decides.{nat_tests}
use Rattle.std.proofs.lemmas.Bool.{cases_eq, cases_Bool, both_ways, ne_eqb}
use Rattle.model.specs.Sets.{Set, add}
use Rattle.model.specs.Paths.{Step}
use Rattle.lowpoint.specs.Lows.{Hops, At, Search, put, enter, leave}
use Rattle.theory.proofs.Sets.{add_same, add_kept, add_cases}

pub put_same : (f : ℕ → ℕ) (y k : ℕ) → put f y k y ≡ k
put_same f y k = grind (arith, nat_tests)

pub put_other : (f : ℕ → ℕ) (y k z : ℕ) → (z ≡ y → ⊥) → put f y k z ≡ f z
put_other f y k z n = rw (ne_eqb z y n)

-- the entries es of the node x, entered by the edge pe: from σ with low point l to σ' with low point l'
pub data Scan (row : Hops) : ℕ → ℕ → List Step → Search → ℕ → Search → ℕ → Type 0 where
  over : {x pe : ℕ} {σ : Search} {l : ℕ} → Scan row x pe [] σ l σ l
  up : {x pe : ℕ} {p : Step} {es : List Step} {σ : Search} {l : ℕ} {σ' : Search} {l' : ℕ} → p.0 ≡ pe → Scan row x pe es σ l σ' l' → Scan row x pe (p ∷ es) σ l σ' l'
  aside : {x pe : ℕ} {p : Step} {es : List Step} {σ : Search} {l : ℕ} {σ' : Search} {l' : ℕ} → (p.0 ≡ pe → ⊥) → σ.seen p.1 ≡ true → Scan row x pe es σ (min l (σ.num p.1)) σ' l' → Scan row x pe (p ∷ es) σ l σ' l'
  down : {x pe : ℕ} {p : Step} {es : List Step} {σ : Search} {l : ℕ} {σ₁ : Search} {l₁ : ℕ} {σ' : Search} {l' : ℕ} → (p.0 ≡ pe → ⊥) → σ.seen p.1 ≡ false → Scan row p.1 p.0 (row p.1) (enter σ p.1) σ.clock σ₁ l₁ → Scan row x pe es (leave x pe p σ l₁ σ₁) (min l l₁) σ' l' → Scan row x pe (p ∷ es) σ l σ' l'

-- every marked node's number is below the clock
abbrev pub Timed : Search → Type 0
Timed σ = (z : ℕ) → σ.seen z ≡ true → σ.num z < σ.clock

pub differ : (m : Set) (y z : ℕ) → m y ≡ false → m z ≡ true → z ≡ y → ⊥
differ m y z u k e = both_ways (m z) (rw e u) k

pub timed_enter : (σ : Search) (y : ℕ) → Timed σ → Timed (enter σ y)
timed_enter σ y t z k =
    ⊎_elim
    (λ (e : z ≡ y). rw (e, put_same σ.num y σ.clock) (omega arith))
    (λ (n : z ≡ y → ⊥).
    ⊎_elim (λ (e : z ≡ y). absurd (n e)) (λ (k : σ.seen z ≡ true). rw (put_other σ.num y σ.clock z n) (let h = t z k in omega arith)) (add_cases σ.seen y z k))
    (cases_eq z y)

module _ (row : Hops) where
  pub kept : {x pe : ℕ} {es : List Step} {σ : Search} {l : ℕ} {σ' : Search} {l' : ℕ} → Scan row x pe es σ l σ' l' → (z : ℕ) → σ.seen z ≡ true → σ'.seen z ≡ true
  kept over z k = k
  kept (up q d) z k = kept d z k
  kept (aside q u d) z k = kept d z k
  kept (down {p = p} {σ = σ} q u d r) z k = kept r z (kept d z (add_kept σ.seen p.1 z k))

  pub before : {x pe : ℕ} {es : List Step} {σ : Search} {l : ℕ} {σ' : Search} {l' : ℕ} → Scan row x pe es σ l σ' l' → (z : ℕ) → σ'.seen z ≡ false → σ.seen z ≡ false
  before {σ = σ} {σ' = σ'} d z k = ⊎_elim (λ (h : σ.seen z ≡ true). absurd (both_ways (σ'.seen z) k (kept d z h))) (λ (h : σ.seen z ≡ false). h) (cases_Bool (σ.seen z))

  -- a number once given stays
  pub stays : {x pe : ℕ} {es : List Step} {σ : Search} {l : ℕ} {σ' : Search} {l' : ℕ} → Scan row x pe es σ l σ' l' → (z : ℕ) → σ.seen z ≡ true → σ'.num z ≡ σ.num z
  stays over z k = refl
  stays (up q d) z k = stays d z k
  stays (aside q u d) z k = stays d z k
  stays (down {p = p} {σ = σ} q u d r) z k =
      let k₁ = add_kept σ.seen p.1 z k in
      stays r z (kept d z k₁) ∙ stays d z k₁ ∙ put_other σ.num p.1 σ.clock z (differ σ.seen p.1 z u k)

  pub grows : {x pe : ℕ} {es : List Step} {σ : Search} {l : ℕ} {σ' : Search} {l' : ℕ} → Scan row x pe es σ l σ' l' → σ.clock ≤ σ'.clock
  grows over = omega arith
  grows (up q d) = grows d
  grows (aside q u d) = grows d
  grows (down q u d r) = let a = grows d in let b = grows r in omega arith

  pub timed : {x pe : ℕ} {es : List Step} {σ : Search} {l : ℕ} {σ' : Search} {l' : ℕ} → Scan row x pe es σ l σ' l' → Timed σ → Timed σ'
  timed over t = t
  timed (up q d) t = timed d t
  timed (aside q u d) t = timed d t
  timed (down {p = p} {σ = σ} q u d r) t = timed r (timed d (timed_enter σ p.1 t))

  -- the node that is entered has the clock for its number
  pub own : {x pe : ℕ} {es : List Step} {y l : ℕ} (σ : Search) {σ' : Search} {l' : ℕ} → Scan row x pe es (enter σ y) l σ' l' → σ'.num y ≡ σ.clock
  own {y = y} σ d = stays d y (add_same σ.seen y) ∙ put_same σ.num y σ.clock

  -- what is newly marked has a late number
  pub late : {x pe : ℕ} {es : List Step} {σ : Search} {l : ℕ} {σ' : Search} {l' : ℕ} → Scan row x pe es σ l σ' l' → (z : ℕ) → σ.seen z ≡ false → σ'.seen z ≡ true → σ.clock ≤ σ'.num z
  late {σ = σ} over z n k = absurd (both_ways (σ.seen z) n k)
  late (up q d) z n k = late d z n k
  late (aside q u d) z n k = late d z n k
  late (down {p = p} {σ = σ} {σ₁ = σ₁} q u d r) z n k =
      ⊎_elim
      (λ (k₁ : σ₁.seen z ≡ true).
      let s = stays r z k₁ in
      ⊎_elim
      (λ (e : add σ.seen p.1 z ≡ true).
      let e₁ : z ≡ p.1 = ⊎_elim (λ (e : z ≡ p.1). e) (λ (e : σ.seen z ≡ true). absurd (both_ways (σ.seen z) n e)) (add_cases σ.seen p.1 z e) in
      let o = own σ d in
      let o₁ : σ₁.num z ≡ σ.clock = rw e₁ o in
      omega arith)
      (λ (e : add σ.seen p.1 z ≡ false). let h = late d z e k₁ in omega arith)
      (cases_Bool (add σ.seen p.1 z)))
      (λ (n₁ : σ₁.seen z ≡ false). let h = late r z n₁ k in let g = grows d in omega arith)
      (cases_Bool (σ₁.seen z))

  pub lower : {x pe : ℕ} {es : List Step} {σ : Search} {l : ℕ} {σ' : Search} {l' : ℕ} → Scan row x pe es σ l σ' l' → l' ≤ l
  lower over = omega arith
  lower (up q d) = lower d
  lower (aside q u d) = let h = lower d in omega arith
  lower (down q u d r) = let h = lower r in omega arith

  -- every entry but that of the edge above is looked at
  pub looked : {x pe : ℕ} {es : List Step} {σ : Search} {l : ℕ} {σ' : Search} {l' : ℕ} → Scan row x pe es σ l σ' l' → (f w : ℕ) → At f w es → (f ≡ pe → ⊥) → (σ'.seen w ≡ true) × (l' ≤ σ'.num w)
  looked over f w i n = elim i [ ]
  looked (up q d) f w (inl h) n = absurd (n (h.0 ∙ q))
  looked (up q d) f w (inr i) n = looked d f w i n
  looked (aside {σ = σ} q u d) f w (inl h) n =
      let k : σ.seen w ≡ true = rw h.1 u in
      let s = stays d w k in
      let a = lower d in
      let e = ap σ.num h.1 in
      (kept d w k, omega arith)
  looked (aside q u d) f w (inr i) n = looked d f w i n
  looked (down {p = p} {σ = σ} {σ₁ = σ₁} q u d r) f w (inl h) n =
      let k : σ₁.seen w ≡ true = rw h.1 (kept d p.1 (add_same σ.seen p.1)) in
      let s = stays r w k in
      let a = lower d in
      let b = lower r in
      let o : σ₁.num w ≡ σ.clock = rw h.1 (own σ d) in
      (kept r w k, omega arith)
  looked (down q u d r) f w (inr i) n = looked r f w i n
