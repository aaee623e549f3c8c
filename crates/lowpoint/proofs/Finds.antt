-- What the low-point search of a graph finds are its bridges and its cut nodes. Assumes nothing.
use Rattle.std.proofs.Common.{◌≡◌, ℕ, ◌<◌, ◌≤◌, Bool, true, false, cond, ◌||◌, eqb, leb, ◌⊎◌, List, [], ◌∷◌, Some, None, Decides, sym, refl, ap, ◌∙◌, inl, inr, ⊎_elim, arith}
use Rattle.std.proofs.lemmas.Bool.{cases_eq, cases_Bool, both_ways, eq-eqb, ne_eqb, eqb-true, le-leb, leb-true, or_cases, or_left, or_right}
use Rattle.std.proofs.lemmas.Bool.Decides.{nat_tests, same_from_decides}
use Rattle.model.specs.declared.Kind.TheVariants.{TwoWay}
use Rattle.model.specs.Model.{Model, Ends, Lawful}
use Rattle.model.specs.Paths.{Step, Path, In, Distinct, edges_of, Uses}
use Rattle.model.specs.Sets.{add}
use Rattle.theory.specs.Models.{upto}
use Rattle.theory.proofs.Members.{in_cases}
use Rattle.theory.proofs.Models.{upto_below, upto_in}
use Rattle.theory.proofs.Sets.{add_same, add_kept, add_before, left_most}
use Rattle.lowpoint.specs.Cuts.{Bridge, CutNode, is_bridge, is_cut}
use Rattle.lowpoint.specs.Lows.{Hops, At, BothWays, Past, RowBridge, TreeEdge, Search, enter, leave, bridged, explore, roots, blank, Trail, begin, onto, Round, start, step, Parts, score, FoundBridges}
use Rattle.lowpoint.specs.Finds.{hops_of, no_edge, searched, arrived, entered_by, FindsLaw}
use Rattle.lowpoint.proofs.Scans.{Scan, over, up, aside, down, kept, before}
use Rattle.lowpoint.proofs.Bridges.{past_back, explored, bridge_law}
use Rattle.lowpoint.proofs.Nodes.{node_law}
use Rattle.lowpoint.proofs.Joins.{bridge_decides, cut_decides}
use Rattle.lowpoint.proofs.Hops.{past_follows, to_past, trail_follows, to_trail, round_follows, to_round, at_ends, at_present, two_way_hops, ends_at}

-- The tree edges: each an entry, no node entered twice.

abbrev pub fars_in : List TreeEdge → List ℕ
fars_in [] = []
fars_in (g ∷ gs) = g.far ∷ fars_in gs

abbrev pub nears_in : List TreeEdge → List ℕ
nears_in [] = []
nears_in (g ∷ gs) = g.near ∷ nears_in gs

abbrev pub Real : Hops → List TreeEdge → Type 0
Real row [] = Unit {0}
Real row (g ∷ gs) = At g.edge g.far (row g.near) × Real row gs

pub record Tree (row : Hops) (σ : Search) : Type 0 where
  pub real : Real row σ.found
  pub fars_seen : (z : ℕ) → In z (fars_in σ.found) → σ.seen z ≡ true
  pub nears_seen : (z : ℕ) → In z (nears_in σ.found) → σ.seen z ≡ true
  pub once : Distinct (fars_in σ.found)

-- a node that was not entered has no tree edge to it, and scores nothing
pub out_arrived : (gs : List TreeEdge) (z : ℕ) → (In z (fars_in gs) → ⊥) → arrived gs z ≡ no_edge
out_arrived [] z n = refl
out_arrived (g ∷ gs) z n = rw (ne_eqb z g.far (λ q. n (inl q))) (out_arrived gs z (λ i. n (inr i)))

pub out_score : (M : ℕ) (gs : List TreeEdge) (z : ℕ) → (In z (nears_in gs) → ⊥) → score M z gs ≡ 0
out_score M [] z n = refl
out_score M (g ∷ gs) z n = rw (ne_eqb z g.near (λ q. n (inl q))) (let r = out_score M gs z (λ i. n (inr i)) in omega arith)

module _ (row : Hops) where
  fars_old : {x pe : ℕ} {es : List Step} {σ : Search} {l : ℕ} {σ' : Search} {l' : ℕ} → Scan row x pe es σ l σ' l' → (z : ℕ) → In z (fars_in σ'.found) → In z (fars_in σ.found) ⊎ (σ.seen z ≡ false)
  fars_old over z i = inl i
  fars_old (up q d) z i = fars_old d z i
  fars_old (aside q u d) z i = fars_old d z i
  fars_old (down {p = p} {σ = σ} {σ₁ = σ₁} q u d r) z i =
      ⊎_elim
      (⊎_elim (λ (e : z ≡ p.1). inr (rw e u))
      (λ (j : In z (fars_in σ₁.found)). ⊎_elim (λ (k : In z (fars_in σ.found)). inl k) (λ (k : add σ.seen p.1 z ≡ false). inr (add_before σ.seen p.1 z k)) (fars_old d z j)))
      (λ (k : σ₁.seen z ≡ false). inr (add_before σ.seen p.1 z (before row d z k)))
      (fars_old r z i)

  entered_tree : (σ : Search) (y : ℕ) → Tree row σ → Tree row (enter σ y)
  entered_tree σ y t =
      record { real = t.real; fars_seen = λ z i. add_kept σ.seen y z (t.fars_seen z i); nears_seen = λ z i. add_kept σ.seen y z (t.nears_seen z i); once = t.once }

  scan_tree : {x pe : ℕ} {es : List Step} {σ : Search} {l : ℕ} {σ' : Search} {l' : ℕ} → Scan row x pe es σ l σ' l' → ((e y : ℕ) → At e y es → At e y (row x)) → σ.seen x ≡ true → Tree row σ → Tree row σ'
  scan_tree over fits here t = t
  scan_tree (up q d) fits here t = scan_tree d (λ e y i. fits e y (inr i)) here t
  scan_tree (aside q u d) fits here t = scan_tree d (λ e y i. fits e y (inr i)) here t
  scan_tree (down {x = x} {pe = pe} {p = p} {σ = σ} {σ₁ = σ₁} {l₁ = l₁} q u d r) fits here t =
      let y = p.1 in
      let x_in = kept row d x (add_kept σ.seen y x here) in
      let t₁ = scan_tree d (λ e y i. i) (add_same σ.seen y) (entered_tree σ y t) in
      let new : In y (fars_in σ₁.found) → ⊥ = (λ i.
      ⊎_elim (λ (j : In y (fars_in σ.found)). both_ways (σ.seen y) u (t.fars_seen y j))
      (λ (k : add σ.seen y y ≡ false). both_ways (add σ.seen y y) k (add_same σ.seen y))
      (fars_old d y i)) in
      let t₂ : Tree row (leave x pe p σ l₁ σ₁) =
      record {
        real = (fits p.0 p.1 (inl (refl, refl)), t₁.real);
        fars_seen = λ z. elim [ inl e ↦ rw e (kept row d y (add_same σ.seen y)) | inr i ↦ t₁.fars_seen z i ];
        nears_seen = λ z. elim [ inl e ↦ rw e x_in | inr i ↦ t₁.nears_seen z i ];
        once = (new, t₁.once);
      } in
      scan_tree r (λ e y i. fits e y (inr i)) x_in t₂

  module _ (N M : ℕ) (g : BothWays row N M) where
    pub roots_tree : (rs : List ℕ) (σ : Search) → ((y : ℕ) → In y rs → y < N) → Tree row σ → Tree row (roots row N M rs σ)
    roots_tree [] σ c t = t
    roots_tree (r ∷ rs) σ c t = go (σ.seen r) refl (λ τ. roots_tree rs τ (λ y i. c y (inr i)))
      where
        σ₁ : Search
        σ₁ = (explore row N r M σ).after

        go : (b : Bool) → σ.seen r ≡ b → ((τ : Search) → Tree row τ → Tree row (roots row N M rs τ)) → Tree row (cond b (roots row N M rs σ) (roots row N M rs σ₁))
        go true u f = f σ t
        go false u f =
            let d = explored row N M g N r M σ u (c r (inl refl)) (left_most σ.seen N) in
            f σ₁ (scan_tree d (λ e y i. i) (add_same σ.seen r) (entered_tree σ r t))

pub blank_tree : (row : Hops) → Tree row blank
blank_tree row = record { real = tt; fars_seen = λ z i. absurd i; nears_seen = λ z i. absurd i; once = tt }

-- Bridges.

arrived_in : (gs : List TreeEdge) (z e : ℕ) → arrived gs z ≡ e → (e ≡ no_edge → ⊥) → In e (bridged gs)
arrived_in [] z e q n = absurd (n (sym q))
arrived_in (g ∷ gs) z e q n = let r = arrived_in gs z e in grind (arith, nat_tests)

pub record Entered (row : Hops) (gs : List TreeEdge) (e : ℕ) : Type 0 where
  pub near : ℕ
  pub far : ℕ
  pub entry : At e far (row near)
  pub is : arrived gs far ≡ e
  pub listed : In far (fars_in gs)

in_entered : (row : Hops) (gs : List TreeEdge) → Real row gs → Distinct (fars_in gs) → (e : ℕ) → In e (bridged gs) → Entered row gs e
in_entered row [] w d e i = absurd i
in_entered row (g ∷ gs) w d e i = go (eqb g.low g.num) refl i (in_entered row gs w.1 d.1 e)
  where
    later : Entered row gs e → Entered row (g ∷ gs) e
    later r =
        record { near = r.near; far = r.far; entry = r.entry; is = rw (ne_eqb r.far g.far (λ q. d.0 (rw (← q) r.listed))) r.is; listed = inr r.listed }

    go : (b : Bool) → eqb g.low g.num ≡ b → In e (cond b (g.edge ∷ bridged gs) (bridged gs)) → (In e (bridged gs) → Entered row gs e) → Entered row (g ∷ gs) e
    go true t (inl q) f =
        record { near = g.near; far = g.far; entry = rw q w.0; is = rw (eq-eqb g.far g.far refl, t) (sym q); listed = inl refl }
    go true t (inr j) f = later (f j)
    go false t j f = later (f j)

module _ (m : Model) (w : Lawful m) (two : m.kind ≡ TwoWay) where
  abbrev row : Hops
  row = hops_of m

  g : BothWays row m.nodes no_edge
  g = two_way_hops m w two

  below : (n : ℕ) (y : ℕ) → In y (upto (λ _. true) n) → y < n
  below n y i = upto_below (λ _. true) n y i

  all_in : (e a b : ℕ) → At e b (row a) → In a (upto (λ _. true) m.nodes)
  all_in e a b i = upto_in (λ _. true) m.nodes a (w.within a (at_present m w e a b i).0) refl

  pub searched_tree : (n : ℕ) → n ≤ m.nodes → Tree row (searched m n)
  searched_tree n h = roots_tree row m.nodes no_edge g (upto (λ _. true) n) blank (λ y i. let l = below n y i in omega arith) (blank_tree row)

  abbrev found : List TreeEdge
  found = (searched m m.nodes).found

  rows_bridge : (e t h : ℕ) → m.ends e ≡ Some (t, h) → RowBridge row e → Bridge m e
  rows_bridge e t h q r =
      record {
        tail = t;
        head = h;
        ends = q;
        every = λ s p.
            ⊎_elim (λ (i : In e (edges_of s)). i)
            (λ (n : In e (edges_of s) → ⊥). absurd (r t h (ends_at m w two e t h q) (to_past m e t s h p.steps n)))
            (in_cases e (edges_of s));
      }

  bridge_rows : (e t h : ℕ) → m.ends e ≡ Some (t, h) → ((s : List Step) → Path m t s h → Uses e s) → RowBridge row e
  bridge_rows e t h q f a b i p =
      let cut : Past row e t h → ⊥ = (λ r.
      let s = past_follows m e t r in
      s.1.1 (f s.0 (record { start = (w.known e t h q).1; steps = s.1.0 }))) in
      ⊎_elim (λ (z : (a ≡ t) × (b ≡ h)). cut (rw (z.0, z.1) at p))
      (λ (z : (a ≡ h) × (b ≡ t)). cut (past_back row m.nodes no_edge g e (rw (z.0, z.1) at p)))
      (at_ends m w e t h q a b i)

  entered_ends : (e t h : ℕ) → m.ends e ≡ Some (t, h) → Entered row found e → (eqb (arrived found t) e || eqb (arrived found h) e) ≡ true
  entered_ends e t h q x =
      ⊎_elim
      (λ (z : (x.near ≡ t) × (x.far ≡ h)). or_right _ _ (eq-eqb (arrived found h) e (ap (arrived found) (sym z.1) ∙ x.is)))
      (λ (z : (x.near ≡ h) × (x.far ≡ t)). or_left _ _ (eq-eqb (arrived found t) e (ap (arrived found) (sym z.1) ∙ x.is)))
      (at_ends m w e t h q x.near x.far x.entry)

  laws : FoundBridges row m.nodes no_edge (upto (λ _. true) m.nodes)
  laws = bridge_law row m.nodes no_edge (upto (λ _. true) m.nodes) g (below m.nodes) all_in

  bridge_ends : (e : ℕ) (o : Ends) → m.ends e ≡ o → Decides (entered_by (arrived found) o e) (Bridge m e)
  bridge_ends e None q = (λ t. absurd (both_ways false refl t), λ b. let z : ◌≡◌ {A = ℕ} 0 1 = (let x = b.ends in cc) in absurd (omega arith))
  bridge_ends e (Some (t, h)) q =
      let few : e ≡ no_edge → ⊥ = (λ c. let k = (w.known e t h q).0 in let l = w.few_edges in omega arith) in
      let yes : (z : ℕ) → arrived found z ≡ e → Bridge m e = (λ z c. rows_bridge e t h q (laws.sound e (arrived_in found z e c few))) in (
        λ r. ⊎_elim (λ (c : eqb (arrived found t) e ≡ true). yes t (eqb-true _ e c)) (λ (c : eqb (arrived found h) e ≡ true). yes h (eqb-true _ e c)) (or_cases _ _ r),
        λ b.
            let s : ◌≡◌ {A = Ends} (Some (b.tail, b.head)) (Some (t, h)) = sym b.ends ∙ q in
            let p : ◌≡◌ {A = ℕ × ℕ} (b.tail, b.head) (t, h) = cc in
            let bt : b.tail ≡ t = ap (λ z. z.0) p in
            let bh : b.head ≡ h = ap (λ z. z.1) p in
            let T = searched_tree m.nodes (omega arith) in
            let i = laws.whole e t h (ends_at m w two e t h q) (bridge_rows e t h q (rw (bt, bh) at b.every)) in
            entered_ends e t h q (in_entered row found T.real T.once e i),
      )

  -- Cut nodes.

  absent_round : (v : ℕ) → m.present v ≡ false → {a b : ℕ} → Trail row a b → (a ≡ v → ⊥) → Round row v a b
  absent_round v o begin n = start n
  absent_round v o (onto {x = x} {y = y} f p i) n = step f (absent_round v o p n) i (λ q. both_ways (m.present v) o (rw (← q) (at_present m w f x y i).1))

  trail_start : {a b : ℕ} → Trail row a b → (m.present a ≡ true) ⊎ (a ≡ b)
  trail_start begin = inr refl
  trail_start {a = a} (onto {x = x} {y = y} f p i) = ⊎_elim (λ (k : m.present a ≡ true). inl k) (λ (q : a ≡ x). inl (rw q (at_present m w f x y i).0)) (trail_start p)

  parts_cut : (v : ℕ) → Parts row v → CutNode m v
  parts_cut v p =
      let a = p.one in
      let b = p.two in
      let s = trail_follows m a p.path in
      let here : m.present v ≡ true = ⊎_elim (λ (k : m.present v ≡ true). k) (λ (k : m.present v ≡ false). absurd (p.none (absent_round v k p.path p.one_other))) (cases_Bool (m.present v)) in
      let first : m.present a ≡ true = ⊎_elim (λ (k : m.present a ≡ true). k) (λ (q : a ≡ b). absurd (p.none (rw (← q) (start p.one_other)))) (trail_start p.path) in
      record {
        present = here;
        one = a;
        two = b;
        one_other = p.one_other;
        two_other = p.two_other;
        path = (s.0, record { start = first; steps = s.1 });
        every = λ s x.
            ⊎_elim (λ (q : v ≡ a). inl q)
            (λ (n : v ≡ a → ⊥).
            ⊎_elim (λ i. inr i) (λ o. absurd (p.none (to_round m v a s b x.steps (⊎_elim n o)))) (in_cases v _))
            (cases_eq v a);
      }

  cut_parts : (v : ℕ) → CutNode m v → Parts row v
  cut_parts v c =
      record {
        one = c.one;
        two = c.two;
        one_other = c.one_other;
        two_other = c.two_other;
        path = to_trail m c.one c.path.0 c.two c.path.1.steps;
        none = λ r. let s = round_follows m v c.one r in s.1.1 (c.every s.0 (record { start = c.path.1.start; steps = s.1.0 }));
      }

  cut_scores : (v : ℕ) → Decides (leb 2 (score no_edge v found)) (CutNode m v)
  cut_scores v =
      let n = node_law row m.nodes no_edge (upto (λ _. true) m.nodes) g (below m.nodes) all_in in
      (λ t. parts_cut v (n.sound v (leb-true 2 _ t)), λ c. le-leb 2 _ (n.whole v (cut_parts v c)))

pub finds_law : FindsLaw
finds_law m w two =
    record {
      bridges = λ e. same_from_decides _ (is_bridge m e) (bridge_ends m w two e (m.ends e) refl) (bridge_decides m w e);
      cuts = λ v. same_from_decides _ (is_cut m v) (cut_scores m w two v) (cut_decides m w v);
    }
