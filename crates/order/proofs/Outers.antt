-- The outer loop: node after node, the stack empty between them. Assumes nothing.
use Rattle.std.proofs.Common.{◌≡◌, ℕ, zero, suc, ◌+◌, ◌<◌, Bool, true, false, cond, not, ◌&&◌, List, [], ◌∷◌, ◌++◌, length, get_or, set, Some, None, Option, sym, refl, ap, ◌∙◌, subst, inl, inr, ⊎_elim, arith}
use Rattle.std.proofs.lemmas.Bool.{both_ways, cases_eq, cond-true, cond-false}
use Rattle.std.proofs.lemmas.List.{get_or-set_same}
use Rattle.graph.specs.declared.Graph.{Ghosts as GraphGhosts}
use Rattle.marks.specs.declared.VisitMap.{Ghosts as MapGhosts}
use Rattle.model.specs.Model.{Model, Lawful}
use Rattle.model.specs.Paths.{In}
use Rattle.model.specs.Sets.{Set, nothing}
use Rattle.theory.specs.Search.{Rows}
use Rattle.theory.specs.Walk.{left}
use Rattle.std.specs.Option.{is_some}
use Rattle.theory.specs.Order.{member, Forward, first_loop, or_else, late}
use Rattle.theory.specs.Loops.{discovered, Tracked, tracks, between}
use Rattle.theory.specs.Models.{rows_of, back_rows_of, upto, node_list, write_order, cycle_node, joined}
use Rattle.theory.specs.Memory.{down}
use Rattle.theory.proofs.Memory.{down_length}
use Rattle.theory.proofs.Loops.{track_law, between_seen}
use Rattle.theory.proofs.Models.{rows_present, rows_within, rows_few, nodes_below, nodes_in, order_laws, name_laws, upto_below, upto_plus}
use Rattle.order.specs.declared.search.Search.{Search}
use Rattle.order.specs.Search.{graph_of, rows, seen, flat, alone, rank, Held, Same, Ready, Leads, Between, Searched, Sought}
use Rattle.order.proofs.Settles.{same_end, seen_end}

left_all : (m : Set) → ((y : ℕ) → m y ≡ false) → (n : ℕ) → left (λ _. 1) m n ≡ n
left_all m f zero = refl
left_all m f (suc n) =
    let r = left_all m f n in
    let c : cond {A = ℕ} (m n) 0 1 ≡ 1 = cond-false {A = ℕ} (m n) 0 1 (f n) in
    omega arith

-- a node alone on the stack
pub known_alone : (mem : List ℕ) (a n : ℕ) → 0 < length mem → a < n → (x : ℕ) → In x (down (set mem 0 a) 1) → x < n
known_alone mem a n l h x = let q = get_or-set_same mem 0 a 0 l in elim [ inl e ↦ omega (arith, q) | inr j ↦ absurd j ]

pub held_alone : (row : Rows) (m : Set) (out mem : List ℕ) (a : ℕ) → 0 < length mem → m a ≡ false → Held row m out [] (down (set mem 0 a) 1)
held_alone row m out mem a l u = (λ t. absurd (both_ways (m a) u (ap m (sym (get_or-set_same mem 0 a 0 l)) ∙ t)), tt)

down_in : (mem : List ℕ) (k d : ℕ) → k < d → In (get_or mem k 0) (down mem d)
down_in mem k zero h = absurd (omega arith)
down_in mem k (suc d) h = ⊎_elim (λ (e : k ≡ d). inl (ap (λ j. get_or mem j 0) e)) (λ (n : k ≡ d → ⊥). inr (down_in mem k d (omega arith))) (cases_eq k d)

-- a new node is present, and not discovered
pub new_parts : (p q : Bool) → true ≡ (p && not q) → (p ≡ true) × (q ≡ false)
new_parts true true e = (refl, e)
new_parts true false e = (refl, refl)
new_parts false true e = (sym e, e)
new_parts false false e = (sym e, refl)

-- where every edge runs forward, no node is named
pub unnamed : (g : Model) → Lawful g → Forward (rows_of g) (write_order g) → None ≡ cycle_node g
unnamed g w f = go (cycle_node g) refl
  where
    go : (o : Option ℕ) → cycle_node g ≡ o → None ≡ o
    go None e = refl
    go (Some a) e =
        let c = (name_laws g w).cycle a e in
        absurd ((order_laws g w).acyclic f a (nodes_in g w a (rows_present g w a c.0 c.1.0).0) c)

module _ {G M : Type 0} {graphs : GraphGhosts G} {maps : MapGhosts M} where
  same_graph : {s t : Search G M graphs maps} → Same s t → graph_of t ≡ graph_of s
  same_graph m = ap (λ b. graphs.model b.now) m.graph

  pub same_nodes : {s t : Search G M graphs maps} → Same s t → (graph_of t).nodes ≡ (graph_of s).nodes
  same_nodes m = ap (λ b. (graphs.model b.now).nodes) m.graph

  -- the first state of a search
  module _ (s : Search G M graphs maps) (clear : seen s ≡ nothing) (unranked : (x : ℕ) → x < (graph_of s).nodes → get_or s.ranks.now x 0 ≡ 0) (still : s.depth ≡ 0) (unlisted : s.count ≡ 0) (unlooped : s.looped ≡ None) where
    no_stack : down s.stack.now s.depth ≡ []
    no_stack = ap (down s.stack.now) still

    none_finished : down s.list.now s.count ≡ []
    none_finished = ap (down s.list.now) unlisted

    clean_ready : Ready s
    clean_ready =
        let g = graph_of s in
        record {
          roomy = omega (arith, still, rows_few g (graphs.lawful s.graph.now) (seen s));
          known = λ x i. absurd (rw no_stack at i);
          ranked = λ x k. unranked x k ∙ ap (λ l. rank l x) (sym none_finished);
          counted = let P : List ℕ → Type 0 = λ l. left (λ _. 1) (λ y. member y l) g.nodes ≡ g.nodes in let n = subst P (sym none_finished) (left_all (λ y. member y []) (λ y. refl) g.nodes) in omega (arith, unlisted, n);
          onward = λ _. let P : List ℕ → Type 0 = Forward (rows s) in let Q : List ℕ → Type 0 = Held (rows s) (seen s) (down s.list.now s.count) [] in record { forward = subst P (sym none_finished) tt; held = subst Q (sym no_stack) tt };
        }

    clean_flat : flat s ≡ between (rows s) (graph_of s).nodes [] []
    clean_flat =
        let A : Set → Tracked = λ m. record { seen = m; stack = down s.stack.now s.depth; order = down s.list.now s.count; looped = s.looped } in
        let B : List ℕ → Tracked = λ st. record { seen = nothing; stack = st; order = down s.list.now s.count; looped = s.looped } in
        let C : List ℕ → Tracked = λ out. record { seen = nothing; stack = []; order = out; looped = s.looped } in
        let D : Option ℕ → Tracked = λ o. record { seen = nothing; stack = []; order = []; looped = o } in
        ap A clear ∙ ap B no_stack ∙ ap C none_finished ∙ ap D unlooped

    pub begins : Between 0 s
    begins = record { ready = clean_ready; reached = clean_flat; still = still }

  module _ {i : ℕ} {s : Search G M graphs maps} (b : Between i s) (h : i < (graph_of s).nodes) where
    abbrev row : Rows
    row = rows s

    abbrev g : Model
    g = graph_of s

    abbrev done : List ℕ
    done = upto g.present i

    below : (y : ℕ) → In y done → y < g.nodes
    below y j = let k = upto_below g.present i y j in omega arith

    more : g.present i ≡ true → upto g.present (i + 1) ≡ done ++ i ∷ []
    more k = upto_plus g.present i ∙ cond-true (g.present i) (done ++ i ∷ []) done k

    -- an absent node, or one that was discovered
    skip_absent : g.present i ≡ false → Between (i + 1) s
    skip_absent k = record {
      ready = b.ready;
      reached = b.reached ∙ ap (λ xs. between row g.nodes xs []) (sym (upto_plus g.present i ∙ cond-false (g.present i) (done ++ i ∷ []) done k));
      still = b.still;
    }

    skip_seen : g.present i ≡ true → seen s i ≡ true → Between (i + 1) s
    skip_seen k e = record {
      ready = b.ready;
      reached = b.reached ∙ sym (ap (λ xs. between row g.nodes xs []) (more k) ∙ between_seen row g.nodes (rows_within g (graphs.lawful s.graph.now)) done below i [] (ap (λ f. f.seen i) (sym b.reached) ∙ e));
      still = b.still;
    }

    pub skipped : false ≡ (g.present i && not (seen s i)) → Between (i + 1) s
    skipped e = go (g.present i) (seen s i) refl refl e
      where
        go : (p q : Bool) → g.present i ≡ p → seen s i ≡ q → false ≡ (p && not q) → Between (i + 1) s
        go true true k l e = skip_seen k l
        go true false k l e = absurd (both_ways false refl e)
        go false q k l e = skip_absent k

    -- a new node: turns to an empty stack do what the search does
    pub settled : (k : g.present i ≡ true) {t u : Search G M graphs maps} → flat t ≡ alone i (flat s) → Same s t → Leads t u → Ready u → u.depth ≡ 0 → Between (i + 1) u
    settled k {t} {u} a m l r z =
        let law = track_law row g.nodes (rows_within g (graphs.lawful s.graph.now)) done below i h in
        let gt : rows t ≡ row = ap rows_of (same_graph m) in
        let gu : graph_of u ≡ g = same_graph l.same ∙ same_graph m in
        let from : tracks row l.many (between row g.nodes done (i ∷ [])) ≡ flat u = ap (tracks row l.many) (sym (a ∙ ap (alone i) b.reached)) ∙ ap (λ row. tracks row l.many (flat t)) (sym gt) ∙ l.gives in
        let bottom : down u.stack.now u.depth ≡ [] = ap (down u.stack.now) z in
        let same = same_end row l.many law.0 (between row g.nodes done (i ∷ [])) (ap (λ f. f.stack) from ∙ bottom) (ap (λ f. f.stack) law.1) in
        let P : Model → Type 0 = λ g. flat u ≡ between (rows_of g) g.nodes (upto g.present (i + 1)) [] in
        record {
          ready = r;
          reached = subst P (sym gu) (sym from ∙ same ∙ law.1 ∙ ap (λ xs. between row g.nodes xs []) (sym (more k)));
          still = z;
        }

  pub ended : {i : ℕ} {s : Search G M graphs maps} → Between i s → i ≡ (graph_of s).nodes → Searched s
  ended {s = s} b e =
      let g = graph_of s in
      let r = b.reached ∙ ap (λ n. between (rows s) g.nodes (upto g.present n) []) e in
      let o : down s.list.now s.count ≡ write_order g = ap (λ f. f.order) r in
      record {
        order = o;
        count = sym (down_length s.list.now s.count) ∙ ap length o;
        few = omega (arith, b.ready.counted);
        looped = ap (λ f. f.looped) r;
        forward = λ k. let P : List ℕ → Type 0 = Forward (rows s) in subst P o (b.ready.onward k).forward;
      }

  -- a self-loop was found
  pub looped_named : {s : Search G M graphs maps} → Searched s → true ≡ is_some s.looped → s.looped ≡ cycle_node (graph_of s)
  looped_named {s} d e = go s.looped e d.looped
    where
      go : (o : Option ℕ) → true ≡ is_some o → o ≡ first_loop (rows s) (discovered (rows s) (graph_of s).nodes (node_list (graph_of s))) → o ≡ cycle_node (graph_of s)
      go (Some a) e f = ap (λ o. or_else o (late (back_rows_of (graph_of s)) nothing (write_order (graph_of s)))) f
      go None e f = absurd (both_ways true e refl)

  -- no self-loop was found, and no entry led back
  pub none_named : {s : Search G M graphs maps} → Searched s → false ≡ is_some s.looped → s.back ≡ false → s.looped ≡ cycle_node (graph_of s)
  none_named {s} d e b = go s.looped e
    where
      go : (o : Option ℕ) → false ≡ is_some o → o ≡ cycle_node (graph_of s)
      go (Some a) e = absurd (both_ways false refl e)
      go None e = unnamed (graph_of s) (graphs.lawful s.graph.now) (d.forward b)

  -- finished nodes lie below the marks' capacity
  pub listed_below : {s : Search G M graphs maps} → Searched s → (k : ℕ) → k < s.count → get_or s.list.now k 0 < maps.limit s.marks.now
  listed_below {s} d k h =
      let x = get_or s.list.now k 0 in
      let i = down_in s.list.now k s.count h in
      let g = graph_of s in
      let w = graphs.lawful s.graph.now in
      let b = nodes_below g w x ((order_laws g w).only x (rw d.order at i)) in
      omega (arith, s.fits)

  -- A search from one node alone.

  module _ {s t : Search G M graphs maps} (c : Between 0 s) (a : ℕ) (k : (graph_of s).present a ≡ true) (e : flat t ≡ alone a (flat s)) (m : Same s t) where
    only_start : flat t ≡ between (rows s) (graph_of s).nodes [] (a ∷ [])
    only_start = e ∙ ap (alone a) c.reached

    pub only_found : {u : Search G M graphs maps} (b : ℕ) (r : Bool) → Sought t b r u → r ≡ joined (graph_of s) a b
    only_found {u} b r f =
        let g = graph_of s in
        let row = rows s in
        let w = graphs.lawful s.graph.now in
        let law = track_law row g.nodes (rows_within g w) [] (λ y i. absurd i) a (w.within a k) in
        let start = between row g.nodes [] (a ∷ []) in
        let from : tracks row f.leads.many start ≡ flat u =
        ap (tracks row f.leads.many) (sym only_start) ∙ ap (λ g. tracks (rows_of g) f.leads.many (flat t)) (sym (same_graph m)) ∙ f.leads.gives in
        go r f.seen_is f.over law from
      where
        row : Rows
        row = rows s

        start : Tracked
        start = between row (graph_of s).nodes [] (a ∷ [])

        go : (r : Bool) → seen u b ≡ r → (r ≡ false → u.depth ≡ 0) → (law : (j : ℕ) × (tracks row j start ≡ between row (graph_of s).nodes (a ∷ []) [])) → tracks row f.leads.many start ≡ flat u → r ≡ joined (graph_of s) a b
        go true e o law from =
            sym (ap (λ t. t.seen b) (sym law.1) ∙ seen_end row f.leads.many law.0 start b (ap (λ t. t.stack) law.1) (ap (λ t. t.seen b) from ∙ e))
        go false e o law from =
            let same = same_end row f.leads.many law.0 start (ap (λ t. t.stack) from ∙ ap (down u.stack.now) (o refl)) (ap (λ t. t.stack) law.1) in
            sym e ∙ ap (λ t. t.seen b) (sym from ∙ same ∙ law.1)
