-- The cut node law. Assumes nothing.
use Rattle.std.proofs.Common.{◌≡◌, ℕ, ◌+◌, ◌<◌, ◌≤◌, Bool, true, false, cond, ◌⊎◌, List, [], ◌∷◌, sym, refl, ap, ◌∙◌, inl, inr, ⊎_elim, arith}
use Rattle.std.proofs.lemmas.Bool.{cases_eq, cases_lt, cases_Bool, cases_order, both_ways, eq-eqb, ne_eqb, le-leb, lt-leb}
use Rattle.model.specs.Sets.{Set, add}
use Rattle.model.specs.Paths.{In, Step}
use Rattle.lowpoint.specs.Lows.{Hops, At, BothWays, Search, TreeEdge, put, enter, leave, explore, roots, blank, Trail, begin, onto, Round, start, step, Parts, score, NodeLaw}
use Rattle.theory.proofs.Sets.{add_same, add_kept, add_cases, add_before, left_most}
use Rattle.lowpoint.proofs.Scans.{put_same, put_other, Scan, over, up, aside, down, Timed, differ, timed_enter, kept, before, stays, timed, own, late, looked}
use Rattle.lowpoint.proofs.Bridges.{edged, Source, source, Shut, explored, tree_keeps, tree_shut}

trail_join : (row : Hops) {a b c : ℕ} → Trail row a b → Trail row b c → Trail row a c
trail_join row p begin = p
trail_join row p (onto f q i) = onto f (trail_join row p q) i

round_join : (row : Hops) (v : ℕ) {a b c : ℕ} → Round row v a b → Round row v b c → Round row v a c
round_join row v p (start n) = p
round_join row v p (step f q i n) = step f (round_join row v p q) i n

round_trail : (row : Hops) (v : ℕ) {a b : ℕ} → Round row v a b → Trail row a b
round_trail row v (start n) = begin
round_trail row v (step f p i n) = onto f (round_trail row v p) i

round_end : (row : Hops) (v : ℕ) {a b : ℕ} → Round row v a b → b ≡ v → ⊥
round_end row v (start n) = n
round_end row v (step f p i n) = n

score_same : (M v : ℕ) (h : TreeEdge) (hs : List TreeEdge) → (v ≡ h.near → ⊥) → score M v (h ∷ hs) ≡ score M v hs
score_same M v h hs n = rw (ne_eqb v h.near n) (omega arith)

score_root : (M v : ℕ) (h : TreeEdge) (hs : List TreeEdge) → v ≡ h.near → h.above ≡ M → score M v (h ∷ hs) ≡ 1 + score M v hs
score_root M v h hs e a = rw (eq-eqb v h.near e, eq-eqb h.above M a)

score_wall : (M v : ℕ) (h : TreeEdge) (hs : List TreeEdge) → v ≡ h.near → (h.above ≡ M → ⊥) → h.top ≤ h.low → 2 ≤ score M v (h ∷ hs)
score_wall M v h hs e a b = rw (eq-eqb v h.near e, ne_eqb h.above M a, le-leb h.top h.low b) (omega arith)

module _ (row : Hops) (N M : ℕ) (g : BothWays row N M) where
  trail_back : {a b : ℕ} → Trail row a b → Trail row b a
  trail_back begin = begin
  trail_back (onto {x = x} {y = y} f p i) = trail_join row (onto f begin (g.back f x y i)) (trail_back p)

  round_back : (v : ℕ) {a b : ℕ} → Round row v a b → Round row v b a
  round_back v (start n) = start n
  round_back v (step {x = x} {y = y} f p i n) = round_join row v (step f (start n) (g.back f x y i) (round_end row v p)) (round_back v p)

  -- v is not newly marked: the newly marked are joined to x round v
  nspans : {x pe : ℕ} {es : List Step} {σ : Search} {l : ℕ} {σ' : Search} {l' : ℕ} → Scan row x pe es σ l σ' l' → ((e y : ℕ) → At e y es → At e y (row x)) → (v : ℕ) → (σ.seen v ≡ false → σ'.seen v ≡ true → ⊥) → (x ≡ v → ⊥) → (u : ℕ) → σ.seen u ≡ false → σ'.seen u ≡ true → Round row v x u
  nspans {σ = σ} over fits v a nx u n k = absurd (both_ways (σ.seen u) n k)
  nspans (up q d) fits v a nx u n k = nspans d (λ e y i. fits e y (inr i)) v a nx u n k
  nspans (aside q t d) fits v a nx u n k = nspans d (λ e y i. fits e y (inr i)) v a nx u n k
  nspans (down {x = x} {p = p} {σ = σ} {σ₁ = σ₁} {σ' = σ'} q t d r) fits v a nx u n k =
      let ny : p.1 ≡ v → ⊥ = λ e. a (rw (← e) t) (rw (← e) (kept row r p.1 (kept row d p.1 (add_same σ.seen p.1)))) in
      let first : Round row v x p.1 = step p.0 (start nx) (fits p.0 p.1 (inl (refl, refl))) ny in
      ⊎_elim
      (λ (k₁ : σ₁.seen u ≡ true).
      ⊎_elim
      (λ (e : add σ.seen p.1 u ≡ true). ⊎_elim (λ (e : u ≡ p.1). rw e first) (λ (e : σ.seen u ≡ true). absurd (both_ways (σ.seen u) n e)) (add_cases σ.seen p.1 u e))
      (λ (e : add σ.seen p.1 u ≡ false).
      round_join row v first (nspans d (λ e y i. i) v (λ b c. a (add_before σ.seen p.1 v b) (kept row r v c)) ny u e k₁))
      (cases_Bool (add σ.seen p.1 u)))
      (λ (n₁ : σ₁.seen u ≡ false). nspans r (λ e y i. fits e y (inr i)) v (λ b c. a (add_before σ.seen p.1 v (before row d v b)) c) nx u n₁ k)
      (cases_Bool (σ₁.seen u))

  scores_grow : {x pe : ℕ} {es : List Step} {σ : Search} {l : ℕ} {σ' : Search} {l' : ℕ} → Scan row x pe es σ l σ' l' → (v : ℕ) → score M v σ.found ≤ score M v σ'.found
  scores_grow over v = omega arith
  scores_grow (up q d) v = scores_grow d v
  scores_grow (aside q t d) v = scores_grow d v
  scores_grow (down q t d r) v = let a = scores_grow d v in let b = scores_grow r v in omega arith

  -- the score of a node that is neither x nor newly marked stays
  scores_stay : {x pe : ℕ} {es : List Step} {σ : Search} {l : ℕ} {σ' : Search} {l' : ℕ} → Scan row x pe es σ l σ' l' → (v : ℕ) → (v ≡ x → ⊥) → (σ.seen v ≡ false → σ'.seen v ≡ true → ⊥) → score M v σ'.found ≡ score M v σ.found
  scores_stay over v n a = refl
  scores_stay (up q d) v n a = scores_stay d v n a
  scores_stay (aside q t d) v n a = scores_stay d v n a
  scores_stay (down {x = x} {pe = pe} {p = p} {σ = σ} {σ₁ = σ₁} {l₁ = l₁} q t d r) v n a =
      let ny : v ≡ p.1 → ⊥ = λ e. a (rw e t) (rw e (kept row r p.1 (kept row d p.1 (add_same σ.seen p.1)))) in
      let b = scores_stay d v ny (λ b c. a (add_before σ.seen p.1 v b) (kept row r v c)) in
      let c = scores_stay r v n (λ b c. a (add_before σ.seen p.1 v (before row d v b)) c) in
      let w : score M v (leave x pe p σ l₁ σ₁).found ≡ score M v σ₁.found = score_same M v (record { edge = p.0; near = x; far = p.1; above = pe; top = σ.num x; num = σ.clock; low = l₁ }) σ₁.found n in
      c ∙ w ∙ b

  -- an edge out of y or of a node marked below it
  hits : (x : ℕ) (p : Step) (σ σ₁ : Search) (l₁ : ℕ) → At p.0 p.1 (row x) → σ.seen x ≡ true → σ.seen p.1 ≡ false → Scan row p.1 p.0 (row p.1) (enter σ p.1) σ.clock σ₁ l₁ → (z : ℕ) → σ.seen z ≡ false → σ₁.seen z ≡ true → (f w : ℕ) → At f w (row z) → (σ₁.seen w ≡ true) × ((σ.seen w ≡ false) ⊎ ((w ≡ x) ⊎ (l₁ ≤ σ₁.num w)))
  hits x p σ σ₁ l₁ i hx t d z n k f w j =
      ⊎_elim
      (λ (e : add σ.seen p.1 z ≡ true).
      let q : z ≡ p.1 = ⊎_elim (λ (e : z ≡ p.1). e) (λ (e : σ.seen z ≡ true). absurd (both_ways (σ.seen z) n e)) (add_cases σ.seen p.1 z e) in
      ⊎_elim
      (λ (s : f ≡ p.0).
      let b : x ≡ w = ⊎_elim (λ (h : (x ≡ p.1) × (p.1 ≡ w)). absurd (differ σ.seen p.1 x t hx h.0)) (λ (h : (x ≡ w) × (p.1 ≡ p.1)). h.0) (g.ends p.0 x p.1 p.1 w i (rw (s, q) at j)) in
      (rw (← b) (kept row d x (add_kept σ.seen p.1 x hx)), inr (inl (sym b))))
      (λ (s : f ≡ p.0 → ⊥). let h = looked row d f w (rw q at j) s in (h.0, inr (inr h.1)))
      (cases_eq f p.0))
      (λ (e : add σ.seen p.1 z ≡ false).
      let h = edged row N M g d (λ e y i. i) (add_same σ.seen p.1) z e k f w j in (
        h.0,
        ⊎_elim (λ (n : add σ.seen p.1 w ≡ false). inl (add_before σ.seen p.1 w n))
            (⊎_elim (λ (q : w ≡ p.1). inl (rw q t)) (λ (b : l₁ ≤ σ₁.num w). inr (inr b)))
            h.1,
      ))
      (cases_Bool (add σ.seen p.1 z))

  -- at x, in the tree of r, begun when the nodes of K were marked
  record Spot (K : Set) (r x : ℕ) (σ : Search) : Type 0 where
    shut : Shut row N M g K
    sub : (z : ℕ) → K z ≡ true → σ.seen z ≡ true
    here : σ.seen x ≡ true
    out : K x ≡ false
    root : σ.seen r ≡ true
    root_out : K r ≡ false
    time : Timed σ
    done : (w : ℕ) → σ.seen w ≡ true → σ.num x < σ.num w → (f z : ℕ) → At f z (row w) → σ.seen z ≡ true
    uniq : (w : ℕ) → σ.seen w ≡ true → σ.num w ≡ σ.num x → w ≡ x
    linked : (v w : ℕ) → σ.seen v ≡ false → σ.seen w ≡ true → K w ≡ false → Round row v r w
    least : (w : ℕ) → σ.seen w ≡ true → K w ≡ false → σ.num r ≤ σ.num w

  outside : (K : Set) (r x : ℕ) (σ : Search) → Spot K r x σ → (z : ℕ) → σ.seen z ≡ false → K z ≡ false
  outside K r x σ h z n = ⊎_elim (λ (k : K z ≡ true). absurd (both_ways (σ.seen z) n (h.sub z k))) (λ (k : K z ≡ false). k) (cases_Bool (K z))

  spot_down : (K : Set) (r x e y : ℕ) (σ : Search) → At e y (row x) → σ.seen y ≡ false → Spot K r x σ → Spot K r y (enter σ y)
  spot_down K r x e y σ i t h =
      record {
        shut = h.shut;
        sub = λ z k. add_kept σ.seen y z (h.sub z k);
        here = add_same σ.seen y;
        out = outside K r x σ h y t;
        root = add_kept σ.seen y r h.root;
        root_out = h.root_out;
        time = timed_enter σ y h.time;
        done =
            λ w k b f z j.
            let o = put_same σ.num y σ.clock in
            let c = timed_enter σ y h.time w k in
            absurd (omega arith);
        uniq =
            λ w k b.
            ⊎_elim (λ (q : w ≡ y). q)
            (λ (k : σ.seen w ≡ true).
            let o = put_same σ.num y σ.clock in
            let o₁ = put_other σ.num y σ.clock w (differ σ.seen y w t k) in
            let c = h.time w k in
            absurd (omega arith))
            (add_cases σ.seen y w k);
        linked =
            λ v w n k o.
            let nv = add_before σ.seen y v n in
            ⊎_elim
            (λ (q : w ≡ y). rw q (step e (h.linked v x nv h.here h.out) i (differ (add σ.seen y) v y n (add_same σ.seen y))))
            (λ (k : σ.seen w ≡ true). h.linked v w nv k o)
            (add_cases σ.seen y w k);
        least =
            λ w k o.
            let a = put_other σ.num y σ.clock r (differ σ.seen y r t h.root) in
            let b = h.time r h.root in
            ⊎_elim
            (λ (q : w ≡ y). let c : put σ.num y σ.clock w ≡ σ.clock = rw q (put_same σ.num y σ.clock) in omega arith)
            (λ (k : σ.seen w ≡ true). let c = put_other σ.num y σ.clock w (differ σ.seen y w t k) in let e = h.least w k o in omega arith)
            (add_cases σ.seen y w k);
      }

  -- an old node keeps its number below y, and a new one has a late one
  old_num : (y e : ℕ) (σ σ₁ : Search) (l₁ : ℕ) → σ.seen y ≡ false → Scan row y e (row y) (enter σ y) σ.clock σ₁ l₁ → (w : ℕ) → σ.seen w ≡ true → σ₁.num w ≡ σ.num w
  old_num y e σ σ₁ l₁ t d w k = stays row d w (add_kept σ.seen y w k) ∙ put_other σ.num y σ.clock w (differ σ.seen y w t k)

  new_num : (y e : ℕ) (σ σ₁ : Search) (l₁ : ℕ) → Scan row y e (row y) (enter σ y) σ.clock σ₁ l₁ → (w : ℕ) → σ.seen w ≡ false → σ₁.seen w ≡ true → σ.clock ≤ σ₁.num w
  new_num y e σ σ₁ l₁ d w n k =
      ⊎_elim
      (λ (a : add σ.seen y w ≡ true).
      ⊎_elim (λ (q : w ≡ y). let o : σ₁.num w ≡ σ.clock = rw q (own row σ d) in omega arith) (λ (a : σ.seen w ≡ true). absurd (both_ways (σ.seen w) n a)) (add_cases σ.seen y w a))
      (λ (a : add σ.seen y w ≡ false). let b = late row d w a k in omega arith)
      (cases_Bool (add σ.seen y w))

  -- y and what is marked below it are joined to y round what is not newly marked
  nbelow : (y e : ℕ) (σ σ₁ : Search) (l₁ : ℕ) → σ.seen y ≡ false → Scan row y e (row y) (enter σ y) σ.clock σ₁ l₁ → (v : ℕ) → (σ.seen v ≡ false → σ₁.seen v ≡ true → ⊥) → (w : ℕ) → σ.seen w ≡ false → σ₁.seen w ≡ true → Round row v y w
  nbelow y e σ σ₁ l₁ t d v a w n k =
      let ny : y ≡ v → ⊥ = λ q. a (rw (← q) t) (rw (← q) (kept row d y (add_same σ.seen y))) in
      ⊎_elim
      (λ (b : add σ.seen y w ≡ true). ⊎_elim (λ (q : w ≡ y). rw q (start ny)) (λ (b : σ.seen w ≡ true). absurd (both_ways (σ.seen w) n b)) (add_cases σ.seen y w b))
      (λ (b : add σ.seen y w ≡ false). nspans d (λ e y i. i) v (λ c. a (add_before σ.seen y v c)) ny w b k)
      (cases_Bool (add σ.seen y w))

  spot_next : (K : Set) (r x pe : ℕ) (p : Step) (σ σ₁ : Search) (l₁ : ℕ) → At p.0 p.1 (row x) → σ.seen p.1 ≡ false → Scan row p.1 p.0 (row p.1) (enter σ p.1) σ.clock σ₁ l₁ → Spot K r x σ → Spot K r x (leave x pe p σ l₁ σ₁)
  spot_next K r x pe p σ σ₁ l₁ i t d h =
      let y = p.1 in
      let e = p.0 in
      let keep : (z : ℕ) → σ.seen z ≡ true → σ₁.seen z ≡ true = λ z k. kept row d z (add_kept σ.seen y z k) in
      let back : (z : ℕ) → σ₁.seen z ≡ false → σ.seen z ≡ false = λ z n. add_before σ.seen y z (before row d z n) in
      let ox = old_num y e σ σ₁ l₁ t d x h.here in
      let cx = h.time x h.here in
      let or = old_num y e σ σ₁ l₁ t d r h.root in
      let cr = h.time r h.root in
      record {
        shut = h.shut;
        sub = λ z k. keep z (h.sub z k);
        here = keep x h.here;
        out = h.out;
        root = keep r h.root;
        root_out = h.root_out;
        time = timed row d (timed_enter σ y h.time);
        done =
            λ w k b f z j.
            ⊎_elim
            (λ (k : σ.seen w ≡ true). let ow = old_num y e σ σ₁ l₁ t d w k in keep z (h.done w k (omega arith) f z j))
            (λ (n : σ.seen w ≡ false). (hits x p σ σ₁ l₁ i h.here t d w n k f z j).0)
            (cases_Bool (σ.seen w));
        uniq =
            λ w k b.
            ⊎_elim
            (λ (k : σ.seen w ≡ true). let ow = old_num y e σ σ₁ l₁ t d w k in h.uniq w k (omega arith))
            (λ (n : σ.seen w ≡ false). let nw = new_num y e σ σ₁ l₁ d w n k in absurd (omega arith))
            (cases_Bool (σ.seen w));
        linked =
            λ v w n k o.
            ⊎_elim
            (λ (k : σ.seen w ≡ true). h.linked v w (back v n) k o)
            (λ (u : σ.seen w ≡ false).
            round_join row v (step e (h.linked v x (back v n) h.here h.out) i (differ σ₁.seen v y n (kept row d y (add_same σ.seen y))))
            (nbelow y e σ σ₁ l₁ t d v (λ b c. both_ways (σ₁.seen v) n c) w u k))
            (cases_Bool (σ.seen w));
        least =
            λ w k o.
            ⊎_elim
            (λ (k : σ.seen w ≡ true). let ow = old_num y e σ σ₁ l₁ t d w k in let b = h.least w k o in omega arith)
            (λ (n : σ.seen w ≡ false). let nw = new_num y e σ σ₁ l₁ d w n k in omega arith)
            (cases_Bool (σ.seen w));
      }

  -- below y no edge leads out but to x
  walled : (K : Set) (r x : ℕ) (p : Step) (σ σ₁ : Search) (l₁ : ℕ) → At p.0 p.1 (row x) → σ.seen p.1 ≡ false → Scan row p.1 p.0 (row p.1) (enter σ p.1) σ.clock σ₁ l₁ → Spot K r x σ → (σ.num x ≤ l₁) ⊎ (x ≡ r) → (z : ℕ) → σ.seen z ≡ false → σ₁.seen z ≡ true → (f w : ℕ) → At f w (row z) → (w ≡ x → ⊥) → (σ.seen w ≡ false) × (σ₁.seen w ≡ true)
  walled K r x p σ σ₁ l₁ i t d h c z n k f w j nx =
      let a = hits x p σ σ₁ l₁ i h.here t d z n k f w j in
      (⊎_elim (λ (m : σ.seen w ≡ true). absurd (never m a.1)) (λ (m : σ.seen w ≡ false). m) (cases_Bool (σ.seen w)), a.0)
    where
      back : At f z (row w)
      back = g.back f z w j

      never : σ.seen w ≡ true → (σ.seen w ≡ false) ⊎ ((w ≡ x) ⊎ (l₁ ≤ σ₁.num w)) → ⊥
      never m (inl n) = both_ways (σ.seen w) n m
      never m (inr (inl e)) = nx e
      never m (inr (inr b)) =
          let o = old_num p.1 p.0 σ σ₁ l₁ t d w m in
          let kw : K w ≡ false = ⊎_elim (λ (q : K w ≡ true). absurd (both_ways (σ.seen z) n (h.sub z (h.shut f w z q back)))) (λ (q : K w ≡ false). q) (cases_Bool (K w)) in
          ⊎_elim (λ (q : σ.num w ≡ σ.num x). nx (h.uniq w m q))
          (⊎_elim
          (λ (q : σ.num w < σ.num x).
          ⊎_elim (λ (c : σ.num x ≤ l₁). omega arith) (λ (e : x ≡ r). let l = h.least w m kw in let e₁ = ap σ.num e in omega arith) c)
          (λ (q : σ.num x < σ.num w). both_ways (σ.seen z) n (h.done w m q f z back)))
          (cases_order (σ.num w) (σ.num x))

  parted : (K : Set) (r x : ℕ) (p : Step) (σ σ₁ : Search) (l₁ : ℕ) → At p.0 p.1 (row x) → σ.seen p.1 ≡ false → Scan row p.1 p.0 (row p.1) (enter σ p.1) σ.clock σ₁ l₁ → Spot K r x σ → (σ.num x ≤ l₁) ⊎ (x ≡ r) → (b : ℕ) → σ.seen b ≡ true → K b ≡ false → (b ≡ x → ⊥) → Parts row x
  parted K r x p σ σ₁ l₁ i t d h c b m o nb =
      let y = p.1 in
      record {
        one = y;
        two = b;
        one_other = λ q. differ σ.seen y x t h.here (sym q);
        two_other = nb;
        path =
            trail_join row (onto p.0 begin (g.back p.0 x y i))
            (trail_join row (trail_back (round_trail row y (h.linked y x t h.here h.out))) (round_trail row y (h.linked y b t m o)));
        none = λ q. both_ways (σ.seen b) (inside q).0 m;
      }
    where
      inside : {w : ℕ} → Round row x p.1 w → (σ.seen w ≡ false) × (σ₁.seen w ≡ true)
      inside (start n) = (t, kept row d p.1 (add_same σ.seen p.1))
      inside (step {x = z} {y = w} f q j n) = let a = inside q in walled K r x p σ σ₁ l₁ i t d h c z a.0 a.1 f w j n

  -- each leg that tells of a cut node is right
  abbrev Right : List TreeEdge → Type 0
  Right [] = Unit {0}
  Right (h ∷ hs) =
      ((h.above ≡ M → ⊥) → h.top ≤ h.low → Parts row h.near) × (h.above ≡ M → 1 ≤ score M h.near hs → Parts row h.near) × Right hs

  told : (v : ℕ) (hs : List TreeEdge) → Right hs → 2 ≤ score M v hs → Parts row v
  told v [] a b = absurd (omega arith)
  told v (h ∷ hs) a b =
      ⊎_elim
      (λ (e : v ≡ h.near).
      ⊎_elim
      (λ (m : h.above ≡ M). rw e (a.1 m (let c = score_root M v h hs e m in let c₁ : score M v hs ≡ score M h.near hs = rw e in omega arith)))
      (λ (m : h.above ≡ M → ⊥).
      ⊎_elim
      (λ (c : h.low < h.top). let b₁ = rw (eq-eqb v h.near e, ne_eqb h.above M m, lt-leb h.top h.low c) at b in told v hs a.2 (omega arith))
      (λ (c : h.top ≤ h.low). rw e (a.0 m c))
      (cases_lt h.low h.top))
      (cases_eq h.above M))
      (λ (n : v ≡ h.near → ⊥). told v hs a.2 (let c = score_same M v h hs n in omega arith))
      (cases_eq v h.near)

  -- another marked node of the tree than its root
  record Other (K : Set) (r : ℕ) (σ : Search) : Type 0 where
    node : ℕ
    marked : σ.seen node ≡ true
    free : K node ≡ false
    differs : node ≡ r → ⊥

  right : (K : Set) (r : ℕ) {x pe : ℕ} {es : List Step} {σ : Search} {l : ℕ} {σ' : Search} {l' : ℕ} → Scan row x pe es σ l σ' l' → ((e y : ℕ) → At e y es → At e y (row x)) → Spot K r x σ → (pe ≡ M → x ≡ r) → ((pe ≡ M → ⊥) → x ≡ r → ⊥) → (x ≡ r → 1 ≤ score M r σ.found → Other K r σ) → Right σ.found → Right σ'.found
  right K r over fits h a b c R = R
  right K r (up q d) fits h a b c R = right K r d (λ e y i. fits e y (inr i)) h a b c R
  right K r (aside q t d) fits h a b c R = right K r d (λ e y i. fits e y (inr i)) h a b c R
  right K r (down {x = x} {pe = pe} {p = p} {σ = σ} {σ₁ = σ₁} {l₁ = l₁} q t d s) fits h a b c R =
      let y = p.1 in
      let i = fits p.0 y (inl (refl, refl)) in
      let ny : y ≡ r → ⊥ = λ e. differ σ.seen y r t h.root (sym e) in
      let R₁ = right K r d (λ e y i. i) (spot_down K r x p.0 y σ i t h) (λ m. absurd (let n = g.edge p.0 x y i in omega arith)) (λ _ e. ny e) (λ e. absurd (ny e)) R in
      right K r s (λ e y i. fits e y (inr i)) (spot_next K r x pe p σ σ₁ l₁ i t d h) a b
      (λ _ _. record { node = y; marked = kept row d y (add_same σ.seen y); free = outside K r x σ h y t; differs = ny }) (
        λ m k. parted K r x p σ σ₁ l₁ i t d h (inl k) r h.root h.root_out (λ e. b m (sym e)),
        λ m k.
            let xr = a m in
            let same = scores_stay d x (λ e. differ σ.seen y x t h.here e) (λ n _. both_ways (add σ.seen y x) n (add_kept σ.seen y x h.here)) in
            let sr : score M x σ.found ≡ score M r σ.found = ap (λ v. score M v σ.found) xr in
            let o = c xr (omega arith) in
            parted K r x p σ σ₁ l₁ i t d h (inr xr) o.node o.marked o.free (λ e. o.differs (e ∙ xr)),
        R₁,
      )

  -- every marked node of the tree but v is joined to c round v
  abbrev Good : Set → ℕ → ℕ → Search → Type 0
  Good K v c σ = (w : ℕ) → σ.seen w ≡ true → K w ≡ false → (w ≡ v → ⊥) → Round row v c w

  good_other : (K : Set) (v c : ℕ) {x pe : ℕ} {es : List Step} {σ : Search} {l : ℕ} {σ' : Search} {l' : ℕ} → Scan row x pe es σ l σ' l' → ((e y : ℕ) → At e y es → At e y (row x)) → σ.seen x ≡ true → K x ≡ false → (x ≡ v → ⊥) → σ.seen v ≡ true → Good K v c σ → Good K v c σ'
  good_other K v c {x = x} {σ = σ} d fits here out nx m a w k o n =
      ⊎_elim
      (λ (k : σ.seen w ≡ true). a w k o n)
      (λ (u : σ.seen w ≡ false). round_join row v (a x here out nx) (nspans d fits v (λ b _. both_ways (σ.seen v) b m) nx w u k))
      (cases_Bool (σ.seen w))

  good_own : (K : Set) (r : ℕ) {x pe : ℕ} {es : List Step} {σ : Search} {l : ℕ} {σ' : Search} {l' : ℕ} → Scan row x pe es σ l σ' l' → ((e y : ℕ) → At e y es → At e y (row x)) → Spot K r x σ → (pe ≡ M → ⊥) → score M x σ'.found < 2 → Good K x r σ → Good K x r σ'
  good_own K r over fits h m b a = a
  good_own K r (up q d) fits h m b a = good_own K r d (λ e y i. fits e y (inr i)) h m b a
  good_own K r (aside q t d) fits h m b a = good_own K r d (λ e y i. fits e y (inr i)) h m b a
  good_own K r (down {x = x} {pe = pe} {p = p} {σ = σ} {σ₁ = σ₁} {l₁ = l₁} q t d s) fits h m b a = good_own K r s (λ e y i. fits e y (inr i)) (spot_next K r x pe p σ σ₁ l₁ edge t d h) m b good
    where
      y : ℕ
      y = p.1

      edge : At p.0 p.1 (row x)
      edge = fits p.0 p.1 (inl (refl, refl))

      low : l₁ < σ.num x
      low =
          ⊎_elim (λ (c : l₁ < σ.num x). c)
          (λ (c : σ.num x ≤ l₁).
          let w : 2 ≤ score M x (leave x pe p σ l₁ σ₁).found = score_wall M x (record { edge = p.0; near = x; far = p.1; above = pe; top = σ.num x; num = σ.clock; low = l₁ }) σ₁.found refl m c in
          let u = scores_grow s x in
          absurd (omega arith))
          (cases_lt l₁ (σ.num x))

      cx : σ.num x < σ.clock
      cx = h.time x h.here

      S : Source row N M g y p.0 (enter σ y) σ₁ l₁
      S = ⊎_elim (λ (e : l₁ ≡ σ.clock). absurd (omega (arith, low, cx))) (λ (z : Source row N M g y p.0 (enter σ y) σ₁ l₁). z) (source row N M g d (λ e y i. i))

      u : ℕ
      u = S.from

      w : ℕ
      w = S.to

      u_new : (σ.seen u ≡ false) × (σ₁.seen u ≡ true)
      u_new =
          ⊎_elim
          (λ (e : (S.from ≡ y) × (S.by ≡ p.0 → ⊥)). (rw e.0 t, rw e.0 (kept row d y (add_same σ.seen y))))
          (λ (e : (add σ.seen y S.from ≡ false) × (σ₁.seen S.from ≡ true)). (add_before σ.seen y S.from e.0, e.1))
          S.which

      w_old : σ.seen w ≡ true
      w_old =
          ⊎_elim (λ (k : σ.seen w ≡ true). k)
          (λ (n : σ.seen w ≡ false). let c = new_num y p.0 σ σ₁ l₁ d w n S.to_in in absurd (omega (arith, low, cx, S.is)))
          (cases_Bool (σ.seen w))

      w_free : K w ≡ false
      w_free =
          ⊎_elim (λ (k : K w ≡ true). absurd (both_ways (σ.seen u) u_new.0 (h.sub u (h.shut S.by w u k (g.back S.by u w S.entry)))))
          (λ (k : K w ≡ false). k)
          (cases_Bool (K w))

      w_other : w ≡ x → ⊥
      w_other e = let c = old_num y p.0 σ σ₁ l₁ t d w w_old in let c₁ = ap σ.num e in omega (arith, low, S.is)

      fixed : σ.seen x ≡ false → σ₁.seen x ≡ true → ⊥
      fixed n _ = both_ways (σ.seen x) n h.here

      to_y : Round row x r y
      to_y =
          round_join row x (step S.by (a w w_old w_free w_other) (g.back S.by u w S.entry) (λ e. differ σ.seen u x u_new.0 h.here (sym e)))
          (round_back x (nbelow y p.0 σ σ₁ l₁ t d x fixed u u_new.0 u_new.1))

      good : Good K x r σ₁
      good z k o n =
          ⊎_elim (λ (k : σ.seen z ≡ true). a z k o n)
          (λ (v : σ.seen z ≡ false). round_join row x to_y (nbelow y p.0 σ σ₁ l₁ t d x fixed z v k))
          (cases_Bool (σ.seen z))

  good_new : (K : Set) (r : ℕ) {x pe : ℕ} {es : List Step} {σ : Search} {l : ℕ} {σ' : Search} {l' : ℕ} → Scan row x pe es σ l σ' l' → ((e y : ℕ) → At e y es → At e y (row x)) → Spot K r x σ → (v : ℕ) → σ.seen v ≡ false → σ'.seen v ≡ true → score M v σ'.found < 2 → Good K v r σ'
  good_new K r {σ = σ} over fits h v n k b = absurd (both_ways (σ.seen v) n k)
  good_new K r (up q d) fits h v n k b = good_new K r d (λ e y i. fits e y (inr i)) h v n k b
  good_new K r (aside q t d) fits h v n k b = good_new K r d (λ e y i. fits e y (inr i)) h v n k b
  good_new K r (down {x = x} {pe = pe} {p = p} {σ = σ} {σ₁ = σ₁} {l₁ = l₁} {σ' = σ'} q t d s) fits h v n k b =
      let y = p.1 in
      let i = fits p.0 y (inl (refl, refl)) in
      let sd = spot_down K r x p.0 y σ i t h in
      let sn = spot_next K r x pe p σ σ₁ l₁ i t d h in
      let grow = scores_grow s v in
      let small : score M v σ₁.found < 2 = omega arith in
      let nx : x ≡ v → ⊥ = differ σ.seen v x n h.here in
      let rest : Good K v r σ₁ → σ₁.seen v ≡ true → Good K v r σ' = λ a m. good_other K v r s (λ e y i. fits e y (inr i)) sn.here h.out nx m a in
      ⊎_elim
      (λ (k₁ : σ₁.seen v ≡ true).
      rest
      (⊎_elim
      (λ (e : add σ.seen y v ≡ true).
      let vy : v ≡ y = ⊎_elim (λ (e : v ≡ y). e) (λ (e : σ.seen v ≡ true). absurd (both_ways (σ.seen v) n e)) (add_cases σ.seen y v e) in
      let first : Good K y r (enter σ y) = λ w m o nw. ⊎_elim (λ (e : w ≡ y). absurd (nw e)) (λ (m : σ.seen w ≡ true). h.linked y w t m o) (add_cases σ.seen y w m) in
      let sy : score M y σ₁.found < 2 = rw vy at small in
      let gy : Good K y r σ₁ = good_own K r d (λ e y i. i) sd (λ e. let c = g.edge p.0 x y i in omega arith) sy first in
      rw vy gy)
      (λ (e : add σ.seen y v ≡ false). good_new K r d (λ e y i. i) sd v e k₁ small)
      (cases_Bool (add σ.seen y v)))
      k₁)
      (λ (n₁ : σ₁.seen v ≡ false). good_new K r s (λ e y i. fits e y (inr i)) sn v n₁ k b)
      (cases_Bool (σ₁.seen v))

  -- a root that has a leg gets no other
  root_still : {r : ℕ} {es : List Step} {σ : Search} {l : ℕ} {σ' : Search} {l' : ℕ} → Scan row r M es σ l σ' l' → 1 ≤ score M r σ.found → score M r σ'.found < 2 → (w : ℕ) → σ'.seen w ≡ true → σ.seen w ≡ true
  root_still over a b w k = k
  root_still (up q d) a b w k = root_still d a b w k
  root_still (aside q t d) a b w k = root_still d a b w k
  root_still (down {x = r} {p = p} {σ = σ} {σ₁ = σ₁} {l₁ = l₁} q t d s) a b w k =
      let c = scores_grow d r in
      let c₁ = scores_grow s r in
      let e : score M r (leave r M p σ l₁ σ₁).found ≡ 1 + score M r σ₁.found = score_root M r (record { edge = p.0; near = r; far = p.1; above = M; top = σ.num r; num = σ.clock; low = l₁ }) σ₁.found refl refl in
      absurd (omega arith)

  root_pair : (K : Set) {r : ℕ} {es : List Step} {σ : Search} {l : ℕ} {σ' : Search} {l' : ℕ} → Scan row r M es σ l σ' l' → σ.seen r ≡ true → ((w : ℕ) → σ.seen w ≡ true → K w ≡ false → w ≡ r) → score M r σ'.found < 2 → (a b : ℕ) → σ'.seen a ≡ true → K a ≡ false → (a ≡ r → ⊥) → σ'.seen b ≡ true → K b ≡ false → (b ≡ r → ⊥) → Round row r a b
  root_pair K over here h c a b ka oa na kb ob nb = absurd (na (h a ka oa))
  root_pair K (up q d) here h c a b ka oa na kb ob nb = root_pair K d here h c a b ka oa na kb ob nb
  root_pair K (aside q t d) here h c a b ka oa na kb ob nb = root_pair K d here h c a b ka oa na kb ob nb
  root_pair K (down {x = r} {p = p} {σ = σ} {σ₁ = σ₁} {l₁ = l₁} {σ' = σ'} q t d s) here h c a b ka oa na kb ob nb = round_join row r (round_back r (way a ka oa na)) (way b kb ob nb)
    where
      leg : 1 ≤ score M r (leave r M p σ l₁ σ₁).found
      leg =
          let e : score M r (leave r M p σ l₁ σ₁).found ≡ 1 + score M r σ₁.found = score_root M r (record { edge = p.0; near = r; far = p.1; above = M; top = σ.num r; num = σ.clock; low = l₁ }) σ₁.found refl refl in
          omega arith

      way : (w : ℕ) → σ'.seen w ≡ true → K w ≡ false → (w ≡ r → ⊥) → Round row r p.1 w
      way w k o n =
          nbelow p.1 p.0 σ σ₁ l₁ t d r (λ m _. both_ways (σ.seen r) m here) w
          (⊎_elim (λ (m : σ.seen w ≡ true). absurd (n (h w m o))) (λ (m : σ.seen w ≡ false). m) (cases_Bool (σ.seen w)))
          (root_still s leg c w k)

  abbrev Fresh : Search → Type 0
  Fresh σ = (v : ℕ) → σ.seen v ≡ false → score M v σ.found ≡ 0

  -- one tree
  module _ (σ σ₁ : Search) (r l₁ : ℕ) (t : σ.seen r ≡ false) (s : Shut row N M g σ.seen) (c : Timed σ) (F : Fresh σ) (R : Right σ.found) (d : Scan row r M (row r) (enter σ r) σ.clock σ₁ l₁) where
    only_root : (w : ℕ) → add σ.seen r w ≡ true → σ.seen w ≡ false → w ≡ r
    only_root w k o = ⊎_elim (λ (q : w ≡ r). q) (λ (k : σ.seen w ≡ true). absurd (both_ways (σ.seen w) o k)) (add_cases σ.seen r w k)

    root_spot : Spot σ.seen r r (enter σ r)
    root_spot =
        record {
          shut = s;
          sub = λ z k. add_kept σ.seen r z k;
          here = add_same σ.seen r;
          out = t;
          root = add_same σ.seen r;
          root_out = t;
          time = timed_enter σ r c;
          done = λ w k b f z j. let o = put_same σ.num r σ.clock in let e = timed_enter σ r c w k in absurd (omega arith);
          uniq =
              λ w k b.
              ⊎_elim (λ (q : w ≡ r). q)
              (λ (k : σ.seen w ≡ true).
              let o = put_same σ.num r σ.clock in
              let o₁ = put_other σ.num r σ.clock w (differ σ.seen r w t k) in
              let e = c w k in
              absurd (omega arith))
              (add_cases σ.seen r w k);
          linked = λ v w n k o. rw (only_root w k o) (start (differ (add σ.seen r) v r n (add_same σ.seen r)));
          least = λ w k o. let e = ap (enter σ r).num (only_root w k o) in omega arith;
        }

    tree_right : Right σ₁.found
    tree_right = right σ.seen r d (λ e y i. i) root_spot (λ _. refl) (λ n. absurd (n refl)) (λ _ b. absurd (let z = F r t in omega arith)) R

    tree_fresh : Fresh σ₁
    tree_fresh v n =
        let k : σ.seen v ≡ false = add_before σ.seen r v (before row d v n) in
        scores_stay d v (λ e. differ σ₁.seen v r n (kept row d r (add_same σ.seen r)) (sym e)) (λ _ m. both_ways (σ₁.seen v) n m) ∙ F v k

    tree_pair : (v : ℕ) → σ.seen v ≡ false → σ₁.seen v ≡ true → score M v σ₁.found < 2 → (a b : ℕ) → σ₁.seen a ≡ true → σ.seen a ≡ false → (a ≡ v → ⊥) → σ₁.seen b ≡ true → σ.seen b ≡ false → (b ≡ v → ⊥) → Round row v a b
    tree_pair v n k m a b ka oa na kb ob nb =
        ⊎_elim
        (λ (q : v ≡ r).
        let m' : score M r σ₁.found < 2 = rw q at m in
        rw q (root_pair σ.seen d (add_same σ.seen r) only_root m' a b ka oa (rw q at na) kb ob (rw q at nb)))
        (λ (q : v ≡ r → ⊥).
        let e : add σ.seen r v ≡ false = rw (ne_eqb v r q) n in
        let G = good_new σ.seen r d (λ e y i. i) root_spot v e k m in
        round_join row v (round_back v (G a ka oa na)) (G b kb ob nb))
        (cases_eq v r)

    tree_in : {a b : ℕ} → Trail row a b → (σ.seen a ≡ false) × (σ₁.seen a ≡ true) → (σ.seen b ≡ false) × (σ₁.seen b ≡ true)
    tree_in begin h = h
    tree_in (onto {x = x} {y = y} f p i) h =
        let a = tree_in p h in (
          ⊎_elim (λ (k : σ.seen y ≡ true). absurd (both_ways (σ.seen x) a.0 (s f y x k (g.back f x y i)))) (λ (k : σ.seen y ≡ false). k) (cases_Bool (σ.seen y)),
          tree_shut row N M g σ σ₁ r l₁ t s c d f x y a.1 i,
        )

    tree_round : (v : ℕ) → (σ.seen v ≡ false → σ₁.seen v ≡ true → ⊥) → {a b : ℕ} → Trail row a b → (σ.seen a ≡ false) × (σ₁.seen a ≡ true) → Round row v a b
    tree_round v n {a = a} begin h = start (λ e. n (rw (← e) h.0) (rw (← e) h.1))
    tree_round v n (onto {x = x} {y = y} f p i) h =
        let b = tree_in (onto f p i) h in
        step f (tree_round v n p h) i (λ e. n (rw (← e) b.0) (rw (← e) b.1))

    tree_whole : (v a b : ℕ) → σ.seen a ≡ false → σ₁.seen a ≡ true → (a ≡ v → ⊥) → (b ≡ v → ⊥) → Trail row a b → score M v σ₁.found < 2 → Round row v a b
    tree_whole v a b o k na nb p m =
        let q = tree_in p (o, k) in
        ⊎_elim
        (λ (e : σ.seen v ≡ true). tree_round v (λ n _. both_ways (σ.seen v) n e) p (o, k))
        (λ (n : σ.seen v ≡ false).
        ⊎_elim
        (λ (e : σ₁.seen v ≡ true). tree_pair v n e m a b k o na q.1 q.0 nb)
        (λ (e : σ₁.seen v ≡ false). tree_round v (λ _ m. both_ways (σ₁.seen v) e m) p (o, k))
        (cases_Bool (σ₁.seen v)))
        (cases_Bool (σ.seen v))

  record Treed (rs : List ℕ) (σ σ' : Search) : Type 0 where
    keeps : (z : ℕ) → σ.seen z ≡ true → σ'.seen z ≡ true
    all : (z : ℕ) → In z rs → σ'.seen z ≡ true
    more : (v : ℕ) → score M v σ.found ≤ score M v σ'.found
    true_legs : Right σ'.found
    whole : (v a b : ℕ) → σ.seen a ≡ false → σ'.seen a ≡ true → (a ≡ v → ⊥) → (b ≡ v → ⊥) → Trail row a b → score M v σ'.found < 2 → Round row v a b

  treed : (rs : List ℕ) (σ : Search) → Shut row N M g σ.seen → Timed σ → Fresh σ → Right σ.found → ((y : ℕ) → In y rs → y < N) → Treed rs σ (roots row N M rs σ)
  treed [] σ s t F R c =
      record { keeps = λ z k. k; all = λ z i. absurd i; more = λ v. omega arith; true_legs = R; whole = λ v a b n k. absurd (both_ways (σ.seen a) n k) }
  treed (r ∷ rs) σ s t F R c = go (σ.seen r) refl (treed rs σ s t F R (λ y i. c y (inr i))) (λ s t F R. treed rs (explore row N r M σ).after s t F R (λ y i. c y (inr i)))
    where
      σ₁ : Search
      σ₁ = (explore row N r M σ).after

      go : (b : Bool) → σ.seen r ≡ b → Treed rs σ (roots row N M rs σ) → (Shut row N M g σ₁.seen → Timed σ₁ → Fresh σ₁ → Right σ₁.found → Treed rs σ₁ (roots row N M rs σ₁)) → Treed (r ∷ rs) σ (cond b (roots row N M rs σ) (roots row N M rs σ₁))
      go true v h f =
          record { keeps = h.keeps; all = λ z. elim [ inl q ↦ h.keeps z (rw q v) | inr i ↦ h.all z i ]; more = h.more; true_legs = h.true_legs; whole = h.whole }
      go false v h₀ f =
          let l₁ = (explore row N r M σ).low in
          let d = explored row N M g N r M σ v (c r (inl refl)) (left_most σ.seen N) in
          let h = f (tree_shut row N M g σ σ₁ r l₁ v s t d) (timed row d (timed_enter σ r t)) (tree_fresh σ σ₁ r l₁ v s t F R d) (tree_right σ σ₁ r l₁ v s t F R d) in
          record {
            keeps = λ z k. h.keeps z (tree_keeps row N M g σ σ₁ r l₁ v s t d z k);
            all = λ z. elim [ inl q ↦ h.keeps z (rw q (kept row d r (add_same σ.seen r))) | inr i ↦ h.all z i ];
            more = λ u. let a = scores_grow d u in let b = h.more u in omega arith;
            true_legs = h.true_legs;
            whole =
                λ u a b n k na nb p m.
                ⊎_elim
                (λ (k₁ : σ₁.seen a ≡ true). tree_whole σ σ₁ r l₁ v s t F R d u a b n k₁ na nb p (let e = h.more u in omega arith))
                (λ (n₁ : σ₁.seen a ≡ false). h.whole u a b n₁ k na nb p m)
                (cases_Bool (σ₁.seen a));
          }

  trail_from : (P : ℕ → Type 0) → ((e a b : ℕ) → At e b (row a) → P a) → {a b : ℕ} → Trail row a b → P a ⊎ (a ≡ b)
  trail_from P c begin = inr refl
  trail_from P c {a = a} (onto {x = x} {y = y} f p i) = ⊎_elim (λ (q : P a). inl q) (λ (q : a ≡ x). inl (rw q (c f x y i))) (trail_from P c p)

pub node_law : NodeLaw
node_law row N M nodes g h c =
    let never : (z : ℕ) → blank.seen z ≡ true → ⊥ = λ z k. both_ways (blank.seen z) refl k in
    let T = treed row N M g nodes blank (λ e a b k. absurd (never a k)) (λ z k. absurd (never z k)) (λ _ _. refl) tt h in
    let hs = (roots row N M nodes blank).found in
    record {
      sound = λ v b. told row N M g v hs T.true_legs b;
      whole =
          λ v p.
          ⊎_elim
          (λ (b : score M v hs < 2).
          absurd
          (p.none
          (⊎_elim
          (λ (i : In p.one nodes). T.whole v p.one p.two refl (T.all p.one i) p.one_other p.two_other p.path b)
          (λ (e : p.one ≡ p.two). rw (← e) (start p.one_other))
          (trail_from row N M g (λ a. In a nodes) c p.path))))
          (λ (b : 2 ≤ score M v hs). b)
          (cases_lt (score M v hs) 2);
    }
