-- Paths of a graph, step by step over its plain rows. Assumes nothing.
use Rattle.std.proofs.Common.{◌≡◌, ℕ, ◌<◌, true, eqb, ◌⊎◌, List, [], ◌∷◌, ◌++◌, Some, None, sym, refl, ap, ◌∙◌, subst, inl, inr, ⊎_elim, arith}
use Rattle.std.proofs.lemmas.Bool.Decides.{nat_tests}
use Rattle.std.proofs.lemmas.Bool.{cases_eq, eq-eqb, or_left}
use Rattle.model.specs.declared.Direction.TheVariants.{Outgoing}
use Rattle.model.specs.declared.Kind.TheVariants.{TwoWay}
use Rattle.model.specs.Model.{Model, Entry, Ends, Lawful, Far, other, due, bit}
use Rattle.model.specs.Paths.{Leads, Step, Follows, In, nodes_of, Touches, Uses}
use Rattle.model.proofs.Entries.{leads_far, count_leads}
use Rattle.model.proofs.Models.{leads_present, mirrored}
use Rattle.theory.proofs.Paths.{follows_on, nodes_on}
use Rattle.lowpoint.specs.Lows.{Hops, At, BothWays, Past, stay, hop, Trail, begin, onto, Round, start, step}
use Rattle.lowpoint.specs.Finds.{hops, hops_of, no_edge}

pub at_leads : (xs : List Entry) (e y : ℕ) → At e y (hops xs) → Leads e y xs
at_leads [] e y i = absurd i
at_leads (x ∷ xs) e y (inl q) = inl (sym q.0, sym q.1)
at_leads (x ∷ xs) e y (inr i) = inr (at_leads xs e y i)

pub leads_at : (xs : List Entry) (e y : ℕ) → Leads e y xs → At e y (hops xs)
leads_at [] e y i = absurd i
leads_at (x ∷ xs) e y (inl q) = inl (sym q.0, sym q.1)
leads_at (x ∷ xs) e y (inr i) = inr (leads_at xs e y i)

-- Paths.

edges_on : (s : List Step) (e c v : ℕ) → Uses v (s ++ (e, c) ∷ []) → Uses v s ⊎ (v ≡ e)
edges_on [] e c v (inl q) = inr q
edges_on [] e c v (inr i) = absurd i
edges_on (x ∷ s) e c v (inl q) = inl (inl q)
edges_on (x ∷ s) e c v (inr i) = ⊎_elim (λ (j : Uses v s). inl (inr j)) (λ (q : v ≡ e). inr q) (edges_on s e c v i)

module _ (m : Model) where
  abbrev row : Hops
  row = hops_of m

  hops_on : (a : ℕ) (s : List Step) (b e c : ℕ) → Follows m a s b → At e c (row b) → Follows m a (s ++ (e, c) ∷ []) c
  hops_on a s b e c f l = follows_on m a s b e c f (at_leads (m.row Outgoing b) e c l)

  pub past_follows : (e a : ℕ) {b : ℕ} → Past row e a b → (s : List Step) × (Follows m a s b × (Uses e s → ⊥))
  past_follows e a stay = ([], (refl, λ i. i))
  past_follows e a (hop {f = f} {x = x} {y = y} p i n) =
      let r = past_follows e a p in (
        r.0 ++ (f, y) ∷ [],
        (hops_on a r.0 x f y r.1.0 i, λ u. ⊎_elim r.1.1 (λ (q : e ≡ f). n (sym q)) (edges_on r.0 f y e u)),
      )

  follows_past : (e c a : ℕ) → Past row e c a → (s : List Step) (b : ℕ) → Follows m a s b → (Uses e s → ⊥) → Past row e c b
  follows_past e c a p [] b f n = rw (← f) p
  follows_past e c a p (x ∷ s) b f n =
      follows_past e c x.1 (hop p (leads_at (m.row Outgoing a) x.0 x.1 f.0) (λ q. n (inl (sym q)))) s b f.1 (λ i. n (inr i))

  pub to_past : (e a : ℕ) (s : List Step) (b : ℕ) → Follows m a s b → (Uses e s → ⊥) → Past row e a b
  to_past e a s b f n = follows_past e a a stay s b f n

  pub trail_follows : (a : ℕ) {b : ℕ} → Trail row a b → (s : List Step) × Follows m a s b
  trail_follows a begin = ([], refl)
  trail_follows a (onto {x = x} {y = y} f p i) = let r = trail_follows a p in (r.0 ++ (f, y) ∷ [], hops_on a r.0 x f y r.1 i)

  follows_trail : (c a : ℕ) → Trail row c a → (s : List Step) (b : ℕ) → Follows m a s b → Trail row c b
  follows_trail c a p [] b f = rw (← f) p
  follows_trail c a p (x ∷ s) b f = follows_trail c x.1 (onto x.0 p (leads_at (m.row Outgoing a) x.0 x.1 f.0)) s b f.1

  pub to_trail : (a : ℕ) (s : List Step) (b : ℕ) → Follows m a s b → Trail row a b
  to_trail a s b f = follows_trail a a begin s b f

  pub round_follows : (v a : ℕ) {b : ℕ} → Round row v a b → (s : List Step) × (Follows m a s b × (Touches v a s → ⊥))
  round_follows v a (start n) = ([], (refl, ⊎_elim (λ (q : v ≡ a). n (sym q)) (λ (i : ⊥). i)))
  round_follows v a (step {x = x} {y = y} f p i n) =
      let r = round_follows v a p in (
        r.0 ++ (f, y) ∷ [],
        (
          hops_on a r.0 x f y r.1.0 i,
          ⊎_elim (λ (q : v ≡ a). r.1.1 (inl q))
              (λ (j : In v (nodes_of (r.0 ++ (f, y) ∷ []))).
              ⊎_elim (λ (k : In v (nodes_of r.0)). r.1.1 (inr k)) (λ (q : v ≡ y). n (sym q)) (nodes_on r.0 f y v j)),
        ),
      )

  follows_round : (v c a : ℕ) → Round row v c a → (s : List Step) (b : ℕ) → Follows m a s b → (In v (nodes_of s) → ⊥) → Round row v c b
  follows_round v c a p [] b f n = rw (← f) p
  follows_round v c a p (x ∷ s) b f n =
      follows_round v c x.1 (step x.0 p (leads_at (m.row Outgoing a) x.0 x.1 f.0) (λ q. n (inl (sym q)))) s b f.1 (λ i. n (inr i))

  pub to_round : (v a : ℕ) (s : List Step) (b : ℕ) → Follows m a s b → (Touches v a s → ⊥) → Round row v a b
  to_round v a s b f n = follows_round v a a (start (λ q. n (inl (sym q)))) s b f (λ i. n (inr i))

-- the two ends of an edge, one way round or the other
far_ends : (t h a b : ℕ) → Far (Some (t, h)) a b → ((a ≡ t) × (b ≡ h)) ⊎ ((a ≡ h) × (b ≡ t))
far_ends t h a b f =
    let p = f.0 in
    let q = f.1 in
    ⊎_elim
    (λ (e : t ≡ a). inl (sym e, p ∙ (let x : eqb t a ≡ true = eq-eqb t a e in rw x)))
    (λ (n : t ≡ a → ⊥). inr (⊎_elim (λ (e : t ≡ a). absurd (n e)) (λ (e : h ≡ a). sym e) q, let x : b ≡ other (t, h) a = p in grind (arith, nat_tests)))
    (cases_eq t a)

two_ends : (o : Ends) (a b c d : ℕ) → Far o a b → Far o c d → ((a ≡ c) × (b ≡ d)) ⊎ ((a ≡ d) × (b ≡ c))
two_ends None a b c d f g = absurd f
two_ends (Some (t, h)) a b c d f g =
    ⊎_elim
    (λ (p : (a ≡ t) × (b ≡ h)).
    ⊎_elim (λ (q : (c ≡ t) × (d ≡ h)). inl (p.0 ∙ sym q.0, p.1 ∙ sym q.1)) (λ (q : (c ≡ h) × (d ≡ t)). inr (p.0 ∙ sym q.1, p.1 ∙ sym q.0)) (far_ends t h c d g))
    (λ (p : (a ≡ h) × (b ≡ t)).
    ⊎_elim (λ (q : (c ≡ t) × (d ≡ h)). inr (p.0 ∙ sym q.1, p.1 ∙ sym q.0)) (λ (q : (c ≡ h) × (d ≡ t)). inl (p.0 ∙ sym q.0, p.1 ∙ sym q.1)) (far_ends t h c d g))
    (far_ends t h a b f)

known_edge : (m : Model) → Lawful m → (e a b : ℕ) (o : Ends) → m.ends e ≡ o → Far o a b → e < m.edges
known_edge m w e a b None q f = absurd f
known_edge m w e a b (Some (t, h)) q f = (w.known e t h q).0

tail_far : (o : Ends) (t h : ℕ) → o ≡ Some (t, h) → (c : ℕ) → Far o t c → c ≡ h
tail_far o t h q c f =
    let g : Far (Some (t, h)) t c = rw q at f in
    ⊎_elim (λ (p : (t ≡ t) × (c ≡ h)). p.1) (λ (p : (t ≡ h) × (c ≡ t)). p.1 ∙ p.0) (far_ends t h t c g)

module _ (m : Model) (w : Lawful m) where
  at_far : (e a b : ℕ) → At e b (hops_of m a) → Far (m.ends e) a b
  at_far e a b i = leads_far m.ends a (m.row Outgoing a) e b (w.rows Outgoing a).fars (at_leads (m.row Outgoing a) e b i)

  pub at_ends : (e t h : ℕ) → m.ends e ≡ Some (t, h) → (a b : ℕ) → At e b (hops_of m a) → ((a ≡ t) × (b ≡ h)) ⊎ ((a ≡ h) × (b ≡ t))
  at_ends e t h q a b i = let f = at_far e a b i in far_ends t h a b (rw q at f)

  pub at_present : (e a b : ℕ) → At e b (hops_of m a) → (m.present a ≡ true) × (m.present b ≡ true)
  at_present e a b i = leads_present m w Outgoing e a b (at_leads (m.row Outgoing a) e b i)

  pub at_edge : (e a b : ℕ) → At e b (hops_of m a) → e < m.edges
  at_edge e a b i = known_edge m w e a b (m.ends e) refl (at_far e a b i)

  module _ (two : m.kind ≡ TwoWay) where
    pub two_way_hops : BothWays (hops_of m) m.nodes no_edge
    two_way_hops =
        record {
          back = λ e a b i.
              let l = (mirrored m w).out e a b (at_leads (m.row Outgoing a) e b i) in
              leads_at (m.row Outgoing b) e a (rw (w.even two b) at l);
          ends = λ e a b c d i j. two_ends (m.ends e) a b c d (at_far e a b i) (at_far e c d j);
          node = λ e a b i. w.within b (at_present e a b i).1;
          edge = λ e a b i. let l = at_edge e a b i in let f = w.few_edges in omega arith;
        }

    -- a two-way edge stands in the row of its tail
    pub ends_at : (e t h : ℕ) → m.ends e ≡ Some (t, h) → At e h (hops_of m t)
    ends_at e t h q =
        let x = (w.rows Outgoing t).exact e in
        let d : due m.kind Outgoing (m.ends e) t ≡ true = rw (two, q) (or_left (eqb t t) (eqb h t) (eq-eqb t t refl)) in
        let y = ap bit d in
        let c = count_leads (m.row Outgoing t) e (omega arith) in
        let f = leads_far m.ends t (m.row Outgoing t) e c.0 (w.rows Outgoing t).fars c.1 in
        let P : ℕ → Type 0 = λ b. Leads e b (m.row Outgoing t) in
        leads_at (m.row Outgoing t) e h (subst P (tail_far (m.ends e) t h q c.0 f) c.1)
