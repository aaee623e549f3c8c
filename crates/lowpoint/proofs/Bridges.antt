-- The bridge law. Assumes nothing.
use Rattle.std.proofs.Common.{◌≡◌, ℕ, zero, suc, ◌<◌, ◌≤◌, min, Bool, true, false, cond, eqb, ◌⊎◌, List, [], ◌∷◌, ◌++◌, sym, refl, inl, inr, ⊎_elim, arith}
use Rattle.std.proofs.lemmas.Bool.Decides.{nat_tests}
use Rattle.std.proofs.lemmas.Bool.{cases_eq, cases_lt, cases_Bool, both_ways, eq-eqb}
use Rattle.model.specs.Sets.{Set, add}
use Rattle.model.specs.Paths.{In, Step}
use Rattle.lowpoint.specs.Lows.{Hops, At, BothWays, Past, stay, hop, RowBridge, Search, enter, leave, bridged, Low, scan, explore, roots, blank, bridges, BridgeLaw}
use Rattle.theory.specs.Walk.{left}
use Rattle.theory.proofs.Lists.{in_join, in_first, in_second}
use Rattle.theory.proofs.Members.{in_cases}
use Rattle.theory.proofs.Sets.{add_same, add_kept, add_cases, add_before, left_add, left_less, left_most}
use Rattle.lowpoint.proofs.Scans.{put_other, Scan, over, up, aside, down, Timed, differ, timed_enter, kept, before, stays, timed, own, late, lower, looked}

pub past_join : (row : Hops) (e : ℕ) {a b c : ℕ} → Past row e a b → Past row e b c → Past row e a c
past_join row e p stay = p
past_join row e p (hop q i n) = hop (past_join row e p q) i n

-- the edges by which the scan went down
pub arcs : {row : Hops} {x pe : ℕ} {es : List Step} {σ : Search} {l : ℕ} {σ' : Search} {l' : ℕ} → Scan row x pe es σ l σ' l' → List ℕ
arcs over = []
arcs (up q d) = arcs d
arcs (aside q u d) = arcs d
arcs (down {p = p} q u d r) = p.0 ∷ (arcs d ++ arcs r)

module _ (row : Hops) (N M : ℕ) (g : BothWays row N M) where
  pub past_back : (e : ℕ) {a b : ℕ} → Past row e a b → Past row e b a
  past_back e stay = stay
  past_back e (hop {f = f} {x = x} {y = y} p i n) = past_join row e (hop stay (g.back f x y i) n) (past_back e p)

  -- an edge with both ends in a set is not one with an end outside
  other : (m : Set) (e x y f p c : ℕ) → At e y (row x) → m x ≡ true → m y ≡ true → At f c (row p) → m c ≡ false → e ≡ f → ⊥
  other m e x y f p c i hx hy j n q =
      ⊎_elim (λ (h : (x ≡ p) × (y ≡ c)). differ m c y n hy h.1) (λ (h : (x ≡ c) × (y ≡ p)). differ m c x n hx h.0) (g.ends f x y p c (rw q at i) j)

  abbrev pub Edged : ℕ → Search → Search → ℕ → Type 0
  Edged x σ σ' l' =
      (u : ℕ) → σ.seen u ≡ false → σ'.seen u ≡ true → (f w : ℕ) → At f w (row u) →
      (σ'.seen w ≡ true) × ((σ.seen w ≡ false) ⊎ ((w ≡ x) ⊎ (l' ≤ σ'.num w)))

  -- an edge out of a newly marked node leads to a newly marked one, to x, or to one that the low point does not pass
  pub edged : {x pe : ℕ} {es : List Step} {σ : Search} {l : ℕ} {σ' : Search} {l' : ℕ} → Scan row x pe es σ l σ' l' → ((e y : ℕ) → At e y es → At e y (row x)) → σ.seen x ≡ true → Edged x σ σ' l'
  edged {σ = σ} over fits here = λ u n k f w i. absurd (both_ways (σ.seen u) n k)
  edged (up q d) fits here = edged d (λ e y i. fits e y (inr i)) here
  edged (aside q v d) fits here = edged d (λ e y i. fits e y (inr i)) here
  edged (down {x = x} {pe = pe} {p = p} {σ = σ} {σ₁ = σ₁} {l₁ = l₁} {σ' = σ'} {l' = l'} q v d r) fits here =
      go (edged d (λ e y i. i) (add_same σ.seen p.1)) (edged r (λ e y i. fits e y (inr i)) (kept row d x (add_kept σ.seen p.1 x here)))
    where
      y : ℕ
      y = p.1

      m : Set
      m = add σ.seen y

      lift : (w : ℕ) → σ₁.seen w ≡ true → l₁ ≤ σ₁.num w → l' ≤ σ'.num w
      lift w k h = let s = stays row r w k in let a = lower row r in omega arith

      top : (u : ℕ) → u ≡ y → (f w : ℕ) → At f w (row u) → (σ'.seen w ≡ true) × ((σ.seen w ≡ false) ⊎ ((w ≡ x) ⊎ (l' ≤ σ'.num w)))
      top u e f w i =
          ⊎_elim
          (λ (s : f ≡ p.0).
          let b : x ≡ w = ⊎_elim (λ (h : (x ≡ y) × (y ≡ w)). absurd (differ σ.seen y x v here h.0)) (λ (h : (x ≡ w) × (y ≡ y)). h.0) (g.ends p.0 x y y w (fits p.0 y (inl (refl, refl))) (rw (s, e) at i)) in
          (rw (← b) (kept row r x (kept row d x (add_kept σ.seen y x here))), inr (inl (sym b))))
          (λ (n : f ≡ p.0 → ⊥). let h = looked row d f w (rw e at i) n in (kept row r w h.0, inr (inr (lift w h.0 h.1))))
          (cases_eq f p.0)

      inner : Edged y (enter σ y) σ₁ l₁ → (u : ℕ) → m u ≡ false → σ₁.seen u ≡ true → (f w : ℕ) → At f w (row u) → (σ'.seen w ≡ true) × ((σ.seen w ≡ false) ⊎ ((w ≡ x) ⊎ (l' ≤ σ'.num w)))
      inner a u n k f w i =
          let h = a u n k f w i in (
            kept row r w h.0,
            ⊎_elim (λ (n : m w ≡ false). inl (add_before σ.seen y w n))
                (⊎_elim (λ (e : w ≡ y). inl (rw e v)) (λ (b : l₁ ≤ σ₁.num w). inr (inr (lift w h.0 b))))
                h.1,
          )

      go : Edged y (enter σ y) σ₁ l₁ → Edged x (leave x pe p σ l₁ σ₁) σ' l' → Edged x σ σ' l'
      go a b u n k f w i =
          ⊎_elim
          (λ (k₁ : σ₁.seen u ≡ true).
          ⊎_elim
          (λ (e : m u ≡ true). top u (⊎_elim (λ (e : u ≡ y). e) (λ (e : σ.seen u ≡ true). absurd (both_ways (σ.seen u) n e)) (add_cases σ.seen y u e)) f w i)
          (λ (e : m u ≡ false). inner a u e k₁ f w i)
          (cases_Bool (m u)))
          (λ (n₁ : σ₁.seen u ≡ false).
          let h = b u n₁ k f w i in
          (h.0, ⊎_elim (λ (n : σ₁.seen w ≡ false). inl (add_before σ.seen y w (before row d w n))) (λ (s : (w ≡ x) ⊎ (l' ≤ σ'.num w)). inr s) h.1))
          (cases_Bool (σ₁.seen u))

  -- a node left with its own number for low point: the edge above it is a bridge
  cut : (x y e : ℕ) (σ σ₁ : Search) (l₁ : ℕ) → At e y (row x) → σ.seen x ≡ true → σ.seen y ≡ false → Timed σ → Scan row y e (row y) (enter σ y) σ.clock σ₁ l₁ → l₁ ≡ σ.clock → RowBridge row e
  cut x y e σ σ₁ l₁ i here v t d q a b j w =
      ⊎_elim
      (λ (h : (a ≡ x) × (b ≡ y)). both_ways (σ.seen x) (inside (past_back e (rw (h.0, h.1) at w))).0 here)
      (λ (h : (a ≡ y) × (b ≡ x)). both_ways (σ.seen x) (inside (rw (h.0, h.1) at w)).0 here)
      (g.ends e a b x y j i)
    where
      newer : (w : ℕ) → l₁ ≤ σ₁.num w → σ.seen w ≡ false
      newer w h =
          ⊎_elim
          (λ (k : σ.seen w ≡ true).
          let s = stays row d w (add_kept σ.seen y w k) in
          let o = put_other σ.num y σ.clock w (differ σ.seen y w v k) in
          let b = t w k in
          absurd (omega arith))
          (λ (k : σ.seen w ≡ false). k)
          (cases_Bool (σ.seen w))

      on : (z : ℕ) → (σ.seen z ≡ false) × (σ₁.seen z ≡ true) → (f w : ℕ) → At f w (row z) → (f ≡ e → ⊥) → (σ.seen w ≡ false) × (σ₁.seen w ≡ true)
      on z h f w i n =
          ⊎_elim
          (λ (k : add σ.seen y z ≡ true).
          let s : z ≡ y = ⊎_elim (λ (e : z ≡ y). e) (λ (k : σ.seen z ≡ true). absurd (both_ways (σ.seen z) h.0 k)) (add_cases σ.seen y z k) in
          let a = looked row d f w (rw s at i) n in
          (newer w a.1, a.0))
          (λ (k : add σ.seen y z ≡ false).
          let a = edged d (λ e y i. i) (add_same σ.seen y) z k h.1 f w i in
          (⊎_elim (λ (n : add σ.seen y w ≡ false). add_before σ.seen y w n) (⊎_elim (λ (e : w ≡ y). rw e v) (newer w)) a.1, a.0))
          (cases_Bool (add σ.seen y z))

      inside : {w : ℕ} → Past row e y w → (σ.seen w ≡ false) × (σ₁.seen w ≡ true)
      inside stay = (v, kept row d y (add_same σ.seen y))
      inside (hop {f = f} {x = z} {y = w} p i n) = on z (inside p) f w i n

  record Arc (t : ℕ) (σ σ' : Search) : Type 0 where
    near : ℕ
    far : ℕ
    entry : At t far (row near)
    fresh : σ.seen far ≡ false
    far_in : σ'.seen far ≡ true
    near_in : σ'.seen near ≡ true

  arc : {x pe : ℕ} {es : List Step} {σ : Search} {l : ℕ} {σ' : Search} {l' : ℕ} (d : Scan row x pe es σ l σ' l') → ((e y : ℕ) → At e y es → At e y (row x)) → σ.seen x ≡ true → (t : ℕ) → In t (arcs d) → Arc t σ σ'
  unfolding arcs
  arc over fits here t i = elim i [ ]
  arc (up q d) fits here t i = arc d (λ e y i. fits e y (inr i)) here t i
  arc (aside q v d) fits here t i = arc d (λ e y i. fits e y (inr i)) here t i
  arc (down {x = x} {p = p} {σ = σ} q v d r) fits here t (inl s) =
      record {
        near = x;
        far = p.1;
        entry = fits t p.1 (inl (s, refl));
        fresh = v;
        far_in = kept row r p.1 (kept row d p.1 (add_same σ.seen p.1));
        near_in = kept row r x (kept row d x (add_kept σ.seen p.1 x here));
      }
  arc (down {x = x} {p = p} {σ = σ} q v d r) fits here t (inr i) =
      ⊎_elim
      (λ (j : In t (arcs d)).
      let a = arc d (λ e y i. i) (add_same σ.seen p.1) t j in
      record {
        near = a.near;
        far = a.far;
        entry = a.entry;
        fresh = add_before σ.seen p.1 a.far a.fresh;
        far_in = kept row r a.far a.far_in;
        near_in = kept row r a.near a.near_in;
      })
      (λ (j : In t (arcs r)).
      let a = arc r (λ e y i. fits e y (inr i)) (kept row d x (add_kept σ.seen p.1 x here)) t j in
      record {
        near = a.near;
        far = a.far;
        entry = a.entry;
        fresh = add_before σ.seen p.1 a.far (before row d a.far a.fresh);
        far_in = a.far_in;
        near_in = a.near_in;
      })
      (in_join t (arcs d) (arcs r) i)

  -- the newly marked are joined to x by the arcs
  spans : {x pe : ℕ} {es : List Step} {σ : Search} {l : ℕ} {σ' : Search} {l' : ℕ} (d : Scan row x pe es σ l σ' l') → ((e y : ℕ) → At e y es → At e y (row x)) → (f : ℕ) → (In f (arcs d) → ⊥) → (u : ℕ) → σ.seen u ≡ false → σ'.seen u ≡ true → Past row f x u
  unfolding arcs
  spans {σ = σ} over fits f a u n k = absurd (both_ways (σ.seen u) n k)
  spans (up q d) fits f a u n k = spans d (λ e y i. fits e y (inr i)) f a u n k
  spans (aside q v d) fits f a u n k = spans d (λ e y i. fits e y (inr i)) f a u n k
  spans (down {x = x} {p = p} {σ = σ} {σ₁ = σ₁} q v d r) fits f a u n k =
      let first : Past row f x p.1 = hop stay (fits p.0 p.1 (inl (refl, refl))) (λ e. a (inl (sym e))) in
      ⊎_elim
      (λ (k₁ : σ₁.seen u ≡ true).
      ⊎_elim
      (λ (e : add σ.seen p.1 u ≡ true). ⊎_elim (λ (e : u ≡ p.1). rw e first) (λ (e : σ.seen u ≡ true). absurd (both_ways (σ.seen u) n e)) (add_cases σ.seen p.1 u e))
      (λ (e : add σ.seen p.1 u ≡ false). past_join row f first (spans d (λ e y i. i) f (λ i. a (inr (in_first f (arcs d) (arcs r) i))) u e k₁))
      (cases_Bool (add σ.seen p.1 u)))
      (λ (n₁ : σ₁.seen u ≡ false). spans r (λ e y i. fits e y (inr i)) f (λ i. a (inr (in_second f (arcs d) (arcs r) i))) u n₁ k)
      (cases_Bool (σ₁.seen u))

  -- where the low point comes from
  pub record Source (x pe : ℕ) (σ σ' : Search) (l' : ℕ) : Type 0 where
    pub from : ℕ
    pub by : ℕ
    pub to : ℕ
    pub entry : At by to (row from)
    pub which : ((from ≡ x) × (by ≡ pe → ⊥)) ⊎ ((σ.seen from ≡ false) × (σ'.seen from ≡ true))
    pub to_in : σ'.seen to ≡ true
    pub is : l' ≡ σ'.num to

  pub source : {x pe : ℕ} {es : List Step} {σ : Search} {l : ℕ} {σ' : Search} {l' : ℕ} → Scan row x pe es σ l σ' l' → ((e y : ℕ) → At e y es → At e y (row x)) → (l' ≡ l) ⊎ Source x pe σ σ' l'
  source over fits = inl refl
  source (up q d) fits = source d (λ e y i. fits e y (inr i))
  source (aside {x = x} {pe = pe} {p = p} {σ = σ} {l = l} {σ' = σ'} {l' = l'} q v d) fits = go (source d (λ e y i. fits e y (inr i)))
    where
      go : (l' ≡ min l (σ.num p.1)) ⊎ Source x pe σ σ' l' → (l' ≡ l) ⊎ Source x pe σ σ' l'
      go (inr s) = inr s
      go (inl e) =
          let b = stays row d p.1 v in
          ⊎_elim
          (λ (h : l < σ.num p.1). inl (omega arith))
          (λ (h : σ.num p.1 ≤ l).
          inr
          (record {
            from = x;
            by = p.0;
            to = p.1;
            entry = fits p.0 p.1 (inl (refl, refl));
            which = inl (refl, q);
            to_in = kept row d p.1 v;
            is = omega arith;
          }))
          (cases_lt l (σ.num p.1))
  source (down {x = x} {pe = pe} {p = p} {σ = σ} {l = l} {σ₁ = σ₁} {l₁ = l₁} {σ' = σ'} {l' = l'} q v d r) fits = go (source d (λ e y i. i)) (source r (λ e y i. fits e y (inr i)))
    where
      y : ℕ
      y = p.1

      σ₂ : Search
      σ₂ = leave x pe p σ l₁ σ₁

      y_in : σ₁.seen y ≡ true
      y_in = kept row d y (add_same σ.seen y)

      deep : l' ≡ l₁ → (l₁ ≡ σ.clock) ⊎ Source y p.0 (enter σ y) σ₁ l₁ → Source x pe σ σ' l'
      deep e (inl h) =
          let s = stays row r y y_in in
          let o = own row σ d in
          record { from = x; by = p.0; to = y; entry = fits p.0 y (inl (refl, refl)); which = inl (refl, q); to_in = kept row r y y_in; is = omega arith }
      deep e (inr s) =
          let b = stays row r s.to s.to_in in
          let c = s.is in
          record {
            from = s.from;
            by = s.by;
            to = s.to;
            entry = s.entry;
            which =
                inr
                (⊎_elim
                (λ (h : (s.from ≡ y) × (s.by ≡ p.0 → ⊥)). (rw h.0 v, rw h.0 (kept row r y y_in)))
                (λ (h : (add σ.seen y s.from ≡ false) × (σ₁.seen s.from ≡ true)). (add_before σ.seen y s.from h.0, kept row r s.from h.1))
                s.which);
            to_in = kept row r s.to s.to_in;
            is = omega arith;
          }

      go : (l₁ ≡ σ.clock) ⊎ Source y p.0 (enter σ y) σ₁ l₁ → (l' ≡ min l l₁) ⊎ Source x pe σ₂ σ' l' → (l' ≡ l) ⊎ Source x pe σ σ' l'
      go a (inr s) =
          inr
          (record {
            from = s.from;
            by = s.by;
            to = s.to;
            entry = s.entry;
            which =
                ⊎_elim
                (λ (h : (s.from ≡ x) × (s.by ≡ pe → ⊥)). inl h)
                (λ (h : (σ₁.seen s.from ≡ false) × (σ'.seen s.from ≡ true)). inr (add_before σ.seen y s.from (before row d s.from h.0), h.1))
                s.which;
            to_in = s.to_in;
            is = s.is;
          })
      go a (inl e) = ⊎_elim (λ (h : l < l₁). inl (omega arith)) (λ (h : l₁ ≤ l). inr (deep (omega arith) a)) (cases_lt l l₁)

  abbrev pub Shut : Set → Type 0
  Shut K = (e a b : ℕ) → K a ≡ true → At e b (row a) → K b ≡ true

  -- at x, in a tree begun when the nodes of K were marked: every marked node of the tree is joined to x
  -- past any edge that has an unmarked end
  record Here (K : Set) (x : ℕ) (σ : Search) : Type 0 where
    shut : Shut K
    sub : (z : ℕ) → K z ≡ true → σ.seen z ≡ true
    linked : (w : ℕ) → σ.seen w ≡ true → K w ≡ false → (f p c : ℕ) → At f c (row p) → σ.seen c ≡ false → Past row f x w
    here : σ.seen x ≡ true
    time : Timed σ

  here_down : (K : Set) (x y e : ℕ) (σ : Search) → At e y (row x) → σ.seen y ≡ false → Here K x σ → Here K y (enter σ y)
  here_down K x y e σ i v h =
      let m : Set = add σ.seen y in
      record {
        shut = h.shut;
        sub = λ z k. add_kept σ.seen y z (h.sub z k);
        linked =
            λ w k o f p c j n.
            ⊎_elim
            (λ (q : w ≡ y). rw q stay)
            (λ (k : σ.seen w ≡ true).
            past_join row f (hop stay (g.back e x y i) (other m e x y f p c i (add_kept σ.seen y x h.here) (add_same σ.seen y) j n))
            (h.linked w k o f p c j (add_before σ.seen y c n)))
            (add_cases σ.seen y w k);
        here = add_same σ.seen y;
        time = timed_enter σ y h.time;
      }

  -- every node that the scan below y marked, and y, is joined to y past an edge with an end that is not marked
  below : (y e : ℕ) (σ σ₁ : Search) (l₁ : ℕ) → Scan row y e (row y) (enter σ y) σ.clock σ₁ l₁ → (w : ℕ) → σ.seen w ≡ false → σ₁.seen w ≡ true → (f : ℕ) → ((t : ℕ) → Arc t (enter σ y) σ₁ → t ≡ f → ⊥) → Past row f y w
  below y e σ σ₁ l₁ d w n k f a =
      ⊎_elim
      (λ (q : add σ.seen y w ≡ true). ⊎_elim (λ (q : w ≡ y). rw q stay) (λ (k : σ.seen w ≡ true). absurd (both_ways (σ.seen w) n k)) (add_cases σ.seen y w q))
      (λ (q : add σ.seen y w ≡ false). spans d (λ e y i. i) f (λ i. a f (arc d (λ e y i. i) (add_same σ.seen y) f i) refl) w q k)
      (cases_Bool (add σ.seen y w))

  here_next : (K : Set) (x pe : ℕ) (p : Step) (σ σ₁ : Search) (l₁ : ℕ) → At p.0 p.1 (row x) → σ.seen p.1 ≡ false → Scan row p.1 p.0 (row p.1) (enter σ p.1) σ.clock σ₁ l₁ → Here K x σ → Here K x (leave x pe p σ l₁ σ₁)
  here_next K x pe q σ σ₁ l₁ i v d h =
      let y = q.1 in
      let e = q.0 in
      let x_in : σ₁.seen x ≡ true = kept row d x (add_kept σ.seen y x h.here) in
      let y_in : σ₁.seen y ≡ true = kept row d y (add_same σ.seen y) in
      record {
        shut = h.shut;
        sub = λ z k. kept row d z (add_kept σ.seen y z (h.sub z k));
        linked =
            λ w k o f p c j n.
            ⊎_elim
            (λ (k : σ.seen w ≡ true). h.linked w k o f p c j (add_before σ.seen y c (before row d c n)))
            (λ (u : σ.seen w ≡ false).
            past_join row f (hop stay i (other σ₁.seen e x y f p c i x_in y_in j n))
            (below y e σ σ₁ l₁ d w u k f (λ t a. other σ₁.seen t a.near a.far f p c a.entry a.near_in a.far_in j n)))
            (cases_Bool (σ.seen w));
        here = x_in;
        time = timed row d (timed_enter σ y h.time);
      }

  abbrev Joined : ℕ → Type 0
  Joined e = (a b : ℕ) → At e b (row a) → Past row e a b

  -- a node left with a lower low point: the edge above it is no bridge
  joined : (K : Set) (x y e : ℕ) (σ σ₁ : Search) (l₁ : ℕ) → At e y (row x) → σ.seen y ≡ false → Scan row y e (row y) (enter σ y) σ.clock σ₁ l₁ → Here K x σ → (l₁ ≡ σ.clock → ⊥) → Joined e
  joined K x y e σ σ₁ l₁ i v d h ne a b j =
      ⊎_elim
      (λ (q : (a ≡ x) × (b ≡ y)). rw (q.0, q.1) (past_back e round))
      (λ (q : (a ≡ y) × (b ≡ x)). rw (q.0, q.1) round)
      (g.ends e a b x y j i)
    where
      m : Set
      m = add σ.seen y

      x_in : m x ≡ true
      x_in = add_kept σ.seen y x h.here

      s : Source y e (enter σ y) σ₁ l₁
      s = ⊎_elim (λ (q : l₁ ≡ σ.clock). absurd (ne q)) (λ (s : Source y e (enter σ y) σ₁ l₁). s) (source d (λ e y i. i))

      from_out : σ.seen s.from ≡ false
      from_out =
          ⊎_elim
          (λ (q : (s.from ≡ y) × (s.by ≡ e → ⊥)). rw q.0 v)
          (λ (q : (m s.from ≡ false) × (σ₁.seen s.from ≡ true)). add_before σ.seen y s.from q.0)
          s.which

      from_in : σ₁.seen s.from ≡ true
      from_in =
          ⊎_elim
          (λ (q : (s.from ≡ y) × (s.by ≡ e → ⊥)). rw q.0 (kept row d y (add_same σ.seen y)))
          (λ (q : (m s.from ≡ false) × (σ₁.seen s.from ≡ true)). q.1)
          s.which

      by_other : s.by ≡ e → ⊥
      by_other q =
          ⊎_elim
          (λ (h : (s.from ≡ y) × (s.by ≡ e → ⊥)). h.1 q)
          (λ (h : (m s.from ≡ false) × (σ₁.seen s.from ≡ true)).
          other m e x y s.by s.to s.from i x_in (add_same σ.seen y) (g.back s.by s.from s.to s.entry) h.0 (sym q))
          s.which

      to_old : σ.seen s.to ≡ true
      to_old =
          ⊎_elim
          (λ (k : σ.seen s.to ≡ true). k)
          (λ (k : σ.seen s.to ≡ false).
          let lo = lower row d in
          let e₁ = s.is in
          let ne₁ = ne in
          ⊎_elim
          (λ (k₁ : m s.to ≡ true).
          ⊎_elim
          (λ (q : s.to ≡ y). let o : σ₁.num s.to ≡ σ.clock = rw q (own row σ d) in absurd (ne (omega arith)))
          (λ (q : σ.seen s.to ≡ true). q)
          (add_cases σ.seen y s.to k₁))
          (λ (k₁ : m s.to ≡ false). let t = late row d s.to k₁ s.to_in in absurd (omega arith))
          (cases_Bool (m s.to)))
          (cases_Bool (σ.seen s.to))

      to_here : K s.to ≡ false
      to_here =
          ⊎_elim
          (λ (k : K s.to ≡ true). absurd (both_ways (σ.seen s.from) from_out (h.sub s.from (h.shut s.by s.to s.from k (g.back s.by s.from s.to s.entry)))))
          (λ (k : K s.to ≡ false). k)
          (cases_Bool (K s.to))

      round : Past row e y x
      round =
          past_join row e
          (hop
          (below y e σ σ₁ l₁ d s.from from_out from_in e (λ t a q. other m e x y t a.near a.far i x_in (add_same σ.seen y) a.entry a.fresh (sym q)))
          s.entry
          by_other)
          (past_back e (h.linked s.to to_old to_here e x y i v))

  held : {x pe : ℕ} {es : List Step} {σ : Search} {l : ℕ} {σ' : Search} {l' : ℕ} → Scan row x pe es σ l σ' l' → (t : ℕ) → In t (bridged σ.found) → In t (bridged σ'.found)
  held over t i = i
  held (up q d) t i = held d t i
  held (aside q v d) t i = held d t i
  held (down {p = p} {σ = σ} {σ₁ = σ₁} {l₁ = l₁} q v d r) t i =
      held r t (elim (eqb l₁ σ.clock) as (λ b. In t (cond b (p.0 ∷ bridged σ₁.found) (bridged σ₁.found))) [ true ↦ inr (held d t i) | false ↦ held d t i ])

  found : (K : Set) {x pe : ℕ} {es : List Step} {σ : Search} {l : ℕ} {σ' : Search} {l' : ℕ} → Scan row x pe es σ l σ' l' → ((e y : ℕ) → At e y es → At e y (row x)) → Here K x σ → (t : ℕ) → In t (bridged σ'.found) → In t (bridged σ.found) ⊎ RowBridge row t
  found K over fits h t i = inl i
  found K (up q d) fits h t i = found K d (λ e y i. fits e y (inr i)) h t i
  found K (aside q v d) fits h t i = found K d (λ e y i. fits e y (inr i)) h t i
  found K (down {x = x} {pe = pe} {p = p} {σ = σ} {σ₁ = σ₁} {l₁ = l₁} q v d r) fits h t i =
      go
      (found K d (λ e y i. i) (here_down K x p.1 p.0 σ edge v h) t)
      (found K r (λ e y i. fits e y (inr i)) (here_next K x pe p σ σ₁ l₁ edge v d h) t i)
    where
      edge : At p.0 p.1 (row x)
      edge = fits p.0 p.1 (inl (refl, refl))

      pick : (In t (bridged σ₁.found) → In t (bridged σ.found) ⊎ RowBridge row t) → (b : Bool) → (b ≡ true → l₁ ≡ σ.clock) → In t (cond b (p.0 ∷ bridged σ₁.found) (bridged σ₁.found)) → In t (bridged σ.found) ⊎ RowBridge row t
      pick a true e (inl s) = inr (rw s (cut x p.1 p.0 σ σ₁ l₁ edge h.here v h.time d (e refl)))
      pick a true e (inr j) = a j
      pick a false e j = a j

      go : (In t (bridged σ₁.found) → In t (bridged σ.found) ⊎ RowBridge row t) → In t (cond (eqb l₁ σ.clock) (p.0 ∷ bridged σ₁.found) (bridged σ₁.found)) ⊎ RowBridge row t → In t (bridged σ.found) ⊎ RowBridge row t
      go a (inl j) = pick a (eqb l₁ σ.clock) (λ e. grind (arith, nat_tests)) j
      go a (inr b) = inr b

  missed : (K : Set) {x pe : ℕ} {es : List Step} {σ : Search} {l : ℕ} {σ' : Search} {l' : ℕ} (d : Scan row x pe es σ l σ' l') → ((e y : ℕ) → At e y es → At e y (row x)) → Here K x σ → (t : ℕ) → In t (arcs d) → In t (bridged σ'.found) ⊎ Joined t
  unfolding arcs
  missed K over fits h t i = elim i [ ]
  missed K (up q d) fits h t i = missed K d (λ e y i. fits e y (inr i)) h t i
  missed K (aside q v d) fits h t i = missed K d (λ e y i. fits e y (inr i)) h t i
  missed K (down {x = x} {pe = pe} {p = p} {σ = σ} {σ₁ = σ₁} {l₁ = l₁} q v d r) fits h t (inl s) =
      let edge : At p.0 p.1 (row x) = fits p.0 p.1 (inl (refl, refl)) in
      ⊎_elim
      (λ (e : l₁ ≡ σ.clock). inl (held r t (rw (eq-eqb l₁ σ.clock e) (inl s))))
      (λ (n : l₁ ≡ σ.clock → ⊥). inr (rw s (joined K x p.1 p.0 σ σ₁ l₁ edge v d h n)))
      (cases_eq l₁ σ.clock)
  missed K (down {x = x} {pe = pe} {p = p} {σ = σ} {σ₁ = σ₁} {l₁ = l₁} q v d r) fits h t (inr i) =
      let edge : At p.0 p.1 (row x) = fits p.0 p.1 (inl (refl, refl)) in
      ⊎_elim
      (λ (j : In t (arcs d)).
      ⊎_elim
      (λ (k : In t (bridged σ₁.found)). inl (held r t (elim (eqb l₁ σ.clock) as (λ b. In t (cond b (p.0 ∷ bridged σ₁.found) (bridged σ₁.found))) [ true ↦ inr k | false ↦ k ])))
      (λ (k : Joined t). inr k)
      (missed K d (λ e y i. i) (here_down K x p.1 p.0 σ edge v h) t j))
      (λ (j : In t (arcs r)). missed K r (λ e y i. fits e y (inr i)) (here_next K x pe p σ σ₁ l₁ edge v d h) t j)
      (in_join t (arcs d) (arcs r) i)

  -- `explore` computes a scan, where its depth suffices
  abbrev pub Explored : ℕ → Type 0
  Explored k =
      (y e : ℕ) (σ : Search) → σ.seen y ≡ false → y < N → left (λ _. 1) σ.seen N ≤ k →
      Scan row y e (row y) (enter σ y) σ.clock (explore row k y e σ).after (explore row k y e σ).low

  scanned : (k : ℕ) → Explored k → (x pe : ℕ) (es : List Step) (σ : Search) (l : ℕ) → left (λ _. 1) σ.seen N ≤ k → ((e y : ℕ) → At e y es → y < N) → Scan row x pe es σ l (scan (explore row k) x pe es σ l).after (scan (explore row k) x pe es σ l).low
  scanned k f x pe [] σ l b c = over
  scanned k f x pe (p ∷ es) σ l b c = go (eqb p.0 pe) (σ.seen p.1) (λ e. grind (arith, nat_tests)) (λ e. grind (arith, nat_tests)) refl (λ σ l b. scanned k f x pe es σ l b (λ e y i. c e y (inr i)))
    where
      r : Low
      r = explore row k p.1 p.0 σ

      S : Low
      S = scan (explore row k) x pe es (leave x pe p σ r.low r.after) (min l r.low)

      T : Low
      T = scan (explore row k) x pe es σ (min l (σ.num p.1))

      U : Low
      U = scan (explore row k) x pe es σ l

      go : (a b : Bool) → (a ≡ true → p.0 ≡ pe) → (a ≡ false → p.0 ≡ pe → ⊥) → σ.seen p.1 ≡ b → ((σ : Search) (l : ℕ) → left (λ _. 1) σ.seen N ≤ k → Scan row x pe es σ l (scan (explore row k) x pe es σ l).after (scan (explore row k) x pe es σ l).low) → Scan row x pe (p ∷ es) σ l (cond a U (cond b T S)).after (cond a U (cond b T S)).low
      go true t e n v ih = up (e refl) (ih σ l b)
      go false true e n v ih = aside (n refl) v (ih σ (min l (σ.num p.1)) (omega arith))
      go false false e n v ih =
          let d = f p.1 p.0 σ v (c p.0 p.1 (inl (refl, refl))) (omega arith) in
          let a = left_less (λ _. 1) σ.seen r.after.seen N (λ z k. kept row d z (add_kept σ.seen p.1 z k)) in
          down (n refl) v d (ih (leave x pe p σ r.low r.after) (min l r.low) (omega arith))

  pub explored : (k : ℕ) → Explored k
  explored zero y e σ v h b = absurd (omega (arith, left_add (λ _. 1) σ.seen y N h v))
  explored (suc k) y e σ v h b =
      let a = left_add (λ _. 1) σ.seen y N h v in
      scanned k (explored k) y e (row y) (enter σ y) σ.clock (omega arith) (λ f z i. g.node f y z i)

  record Rooted (rs : List ℕ) (σ σ' : Search) : Type 0 where
    keeps : (z : ℕ) → σ.seen z ≡ true → σ'.seen z ≡ true
    all : (z : ℕ) → In z rs → σ'.seen z ≡ true
    holds : (t : ℕ) → In t (bridged σ.found) → In t (bridged σ'.found)
    right : (t : ℕ) → In t (bridged σ'.found) → In t (bridged σ.found) ⊎ RowBridge row t
    whole : (e a b : ℕ) → At e b (row a) → σ.seen a ≡ false → σ'.seen a ≡ true → In e (bridged σ'.found) ⊎ Joined e

  -- one tree
  module _ (σ σ₁ : Search) (r l₁ : ℕ) (v : σ.seen r ≡ false) (s : Shut σ.seen) (t : Timed σ) (d : Scan row r M (row r) (enter σ r) σ.clock σ₁ l₁) where
    root_here : Here σ.seen r (enter σ r)
    root_here =
        record {
          shut = s;
          sub = λ z k. add_kept σ.seen r z k;
          linked = λ w k o f p c j n. ⊎_elim (λ (q : w ≡ r). rw q stay) (λ (k : σ.seen w ≡ true). absurd (both_ways (σ.seen w) o k)) (add_cases σ.seen r w k);
          here = add_same σ.seen r;
          time = timed_enter σ r t;
        }

    pub tree_keeps : (z : ℕ) → σ.seen z ≡ true → σ₁.seen z ≡ true
    tree_keeps z k = kept row d z (add_kept σ.seen r z k)

    pub tree_shut : Shut σ₁.seen
    tree_shut e a b k i =
        ⊎_elim
        (λ (q : add σ.seen r a ≡ true).
        ⊎_elim
        (λ (q : a ≡ r). (looked row d e b (rw q at i) (λ q₁. let h = g.edge e a b i in absurd (omega arith))).0)
        (λ (k : σ.seen a ≡ true). tree_keeps b (s e a b k i))
        (add_cases σ.seen r a q))
        (λ (q : add σ.seen r a ≡ false). (edged d (λ e y i. i) (add_same σ.seen r) a q k e b i).0)
        (cases_Bool (add σ.seen r a))

    tree_way : (e : ℕ) → (In e (arcs d) → ⊥) → (z : ℕ) → σ.seen z ≡ false → σ₁.seen z ≡ true → Past row e r z
    tree_way e n z o k =
        ⊎_elim
        (λ (q : add σ.seen r z ≡ true). ⊎_elim (λ (q : z ≡ r). rw q stay) (λ (k : σ.seen z ≡ true). absurd (both_ways (σ.seen z) o k)) (add_cases σ.seen r z q))
        (λ (q : add σ.seen r z ≡ false). spans d (λ e y i. i) e n z q k)
        (cases_Bool (add σ.seen r z))

    tree_whole : (e a b : ℕ) → At e b (row a) → σ.seen a ≡ false → σ₁.seen a ≡ true → In e (bridged σ₁.found) ⊎ Joined e
    tree_whole e a b i o k =
        ⊎_elim (missed σ.seen d (λ e y i. i) root_here e)
        (λ (n : In e (arcs d) → ⊥).
        inr
        (λ a₁ b₁ j.
        let w : Past row e a b = past_join row e (past_back e (tree_way e n a o k)) (tree_way e n b b_out (tree_shut e a b k i)) in
        ⊎_elim (λ (q : (a₁ ≡ a) × (b₁ ≡ b)). rw (q.0, q.1) w) (λ (q : (a₁ ≡ b) × (b₁ ≡ a)). rw (q.0, q.1) (past_back e w)) (g.ends e a₁ b₁ a b j i)))
        (in_cases e (arcs d))
      where
        b_out : σ.seen b ≡ false
        b_out = ⊎_elim (λ (k : σ.seen b ≡ true). absurd (both_ways (σ.seen a) o (s e b a k (g.back e a b i)))) (λ (k : σ.seen b ≡ false). k) (cases_Bool (σ.seen b))

  rooted : (rs : List ℕ) (σ : Search) → Shut σ.seen → Timed σ → ((y : ℕ) → In y rs → y < N) → Rooted rs σ (roots row N M rs σ)
  rooted [] σ s t c =
      record { keeps = λ z k. k; all = λ z i. absurd i; holds = λ u i. i; right = λ u i. inl i; whole = λ e a b i n k. absurd (both_ways (σ.seen a) n k) }
  rooted (r ∷ rs) σ s t c = go (σ.seen r) refl (rooted rs σ s t (λ y i. c y (inr i))) (λ s t. rooted rs (explore row N r M σ).after s t (λ y i. c y (inr i)))
    where
      σ₁ : Search
      σ₁ = (explore row N r M σ).after

      go : (b : Bool) → σ.seen r ≡ b → Rooted rs σ (roots row N M rs σ) → (Shut σ₁.seen → Timed σ₁ → Rooted rs σ₁ (roots row N M rs σ₁)) → Rooted (r ∷ rs) σ (cond b (roots row N M rs σ) (roots row N M rs σ₁))
      go true v h f =
          record { keeps = h.keeps; all = λ z. elim [ inl q ↦ h.keeps z (rw q v) | inr i ↦ h.all z i ]; holds = h.holds; right = h.right; whole = h.whole }
      go false v h₀ f =
          let l₁ = (explore row N r M σ).low in
          let d = explored N r M σ v (c r (inl refl)) (left_most σ.seen N) in
          let h = f (tree_shut σ σ₁ r l₁ v s t d) (timed row d (timed_enter σ r t)) in
          record {
            keeps = λ z k. h.keeps z (tree_keeps σ σ₁ r l₁ v s t d z k);
            all = λ z. elim [ inl q ↦ h.keeps z (rw q (kept row d r (add_same σ.seen r))) | inr i ↦ h.all z i ];
            holds = λ u i. h.holds u (held d u i);
            right = λ u i. ⊎_elim (found σ.seen d (λ e y i. i) (root_here σ σ₁ r l₁ v s t d) u) (λ (b : RowBridge row u). inr b) (h.right u i);
            whole =
                λ e a b i n k.
                ⊎_elim
                (λ (k₁ : σ₁.seen a ≡ true). ⊎_elim (λ (j : In e (bridged σ₁.found)). inl (h.holds e j)) (λ (j : Joined e). inr j) (tree_whole σ σ₁ r l₁ v s t d e a b i n k₁))
                (λ (n₁ : σ₁.seen a ≡ false). h.whole e a b i n₁ k)
                (cases_Bool (σ₁.seen a));
          }

pub bridge_law : BridgeLaw
bridge_law row N M nodes g h c =
    let never : (z : ℕ) → blank.seen z ≡ true → ⊥ = λ z k. both_ways (blank.seen z) refl k in
    let R = rooted row N M g nodes blank (λ e a b k. absurd (never a k)) (λ z k. absurd (never z k)) h in
    record {
      sound = λ e i. ⊎_elim (λ (j : ⊥). absurd j) (λ (b : RowBridge row e). b) (R.right e i);
      whole = λ e a b i w. ⊎_elim (λ (j : In e (bridges row N M nodes)). j) (λ j. absurd (w a b i (j a b i))) (R.whole e a b i refl (R.all a (c e a b i)));
    }
