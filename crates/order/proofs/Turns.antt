-- One turn: it is a turn of the loop, and what holds between turns holds again. Assumes nothing.
use Rattle.std.proofs.Common.{◌≡◌, ℕ, zero, suc, ◌+◌, ◌-◌, ◌^◌, ◌<◌, ◌≤◌, Bool, true, false, cond, eqb, List, [], ◌∷◌, length, get_or, set, Option, sym, refl, ap, ◌∙◌, subst, inl, inr, ⊎_elim, arith}
use Rattle.std.proofs.lemmas.Bool.{cases_eq, eq-eqb, ne_eqb, eqb-true, eqb-false, cond-true, cond-false}
use Rattle.std.proofs.lemmas.List.{get_or-set_same, get_or-set_other}
use Rattle.graph.specs.declared.Graph.{Ghosts as GraphGhosts}
use Rattle.marks.specs.declared.VisitMap.{Ghosts as MapGhosts}
use Rattle.model.specs.Model.{Model, Lawful}
use Rattle.model.specs.Paths.{In}
use Rattle.model.specs.Sets.{Set, add}
use Rattle.theory.specs.Search.{Rows}
use Rattle.theory.specs.Walk.{pushed, left}
use Rattle.theory.specs.Order.{member, first_loop, or_else}
use Rattle.theory.specs.Loops.{Tracked, track, one_track}
use Rattle.theory.specs.Models.{rows_of}
use Rattle.theory.specs.Memory.{down}
use Rattle.theory.proofs.Sets.{left_add}
use Rattle.theory.proofs.Members.{member_in}
use Rattle.theory.proofs.Memory.{down_length, down_more, down_push}
use Rattle.theory.proofs.Models.{rows_within}
use Rattle.theory.proofs.Walks.{pushed_length, pushed_in}
use Rattle.order.specs.declared.search.Search.{Search}
use Rattle.order.specs.Search.{graph_of, rows, seen, flat, rank, Entered, Left, Ready, Quiet, Onward}
use Rattle.order.proofs.Ranks.{rank_none, rank_some}
use Rattle.order.proofs.Onwards.{onward_new, onward_old}

abbrev made : Set → List ℕ → List ℕ → Option ℕ → Tracked
made s st out o = record { seen = s; stack = st; order = out; looped = o }

module _ {G M : Type 0} {graphs : GraphGhosts G} {maps : MapGhosts M} where
  pub record Turned (s t : Search G M graphs maps) : Type 0 where
    pub turn_is : flat t ≡ one_track (rows s) (flat s)
    pub again : Ready t

  module _ {s : Search G M graphs maps} (r : Ready s) (h : 0 < s.depth) where
    abbrev g : Model
    g = graph_of s

    abbrev row : Rows
    row = rows s

    abbrev m : Set
    m = seen s

    abbrev mem : List ℕ
    mem = s.stack.now

    abbrev ranks : List ℕ
    ranks = s.ranks.now

    abbrev x : ℕ
    x = get_or mem (s.depth - 1) 0

    abbrev out : List ℕ
    out = down s.list.now s.count

    abbrev under : List ℕ
    under = down mem (s.depth - 1)

    w : Lawful g
    w = graphs.lawful s.graph.now

    pub top_below : x < g.nodes
    top_below = r.known x (rw (down_more mem s.depth h) (inl refl))

    pub few : s.count < 65536
    few = omega (arith, r.counted, w.few_nodes)

    unlisted : get_or ranks x 0 ≡ 0 → member x out ≡ false
    unlisted z = rank_none out x (sym (r.ranked x top_below) ∙ z)

    counts : get_or ranks x 0 ≡ 0 → s.count + 1 + left (λ _. 1) (add (λ y. member y out) x) g.nodes ≡ g.nodes
    counts z =
        let l = left_add (λ _. 1) (λ y. member y out) x g.nodes top_below (unlisted z) in
        omega (arith, l, r.counted)

    pub list_room : get_or ranks x 0 ≡ 0 → s.count < length s.list.now
    list_room z = omega (arith, counts z, s.long)

    turn_new : m x ≡ false → one_track row (flat s) ≡ made (add m x) (pushed (add m x) (row x) (down mem s.depth)) out (or_else s.looped (first_loop row (x ∷ [])))
    turn_new u =
        let e = down_more mem s.depth h in
        ap (λ st. track row m st out s.looped) e
        ∙ cond-false (m x) _ _ u
        ∙ ap (λ st. made (add m x) (pushed (add m x) (row x) st) out (or_else s.looped (first_loop row (x ∷ [])))) (sym e)

    turn_old : m x ≡ true → one_track row (flat s) ≡ made m under (cond (member x out) out (x ∷ out)) s.looped
    turn_old u = ap (λ st. track row m st out s.looped) (down_more mem s.depth h) ∙ cond-true (m x) _ _ u

    -- there is room for the row of a new top
    pub row_room : m x ≡ false → (s.depth + length (row x) ≤ length mem) × (s.depth + length (row x) < 2 ^ 32)
    row_room u =
        let l = left_add (λ y. length (row y)) m x g.nodes top_below u in
        (omega (arith, l, r.roomy, s.deep), omega (arith, l, r.roomy, w.few_nodes, w.few_edges))

    -- the top is new
    module _ (u : m x ≡ false) (t : Search G M graphs maps) (k : Entered x s t) where
      new_graph : graph_of t ≡ g
      new_graph = ap (λ b. graphs.model b.now) k.same.graph

      listed : down t.list.now t.count ≡ out
      listed = ap (λ l. down l t.count) k.list ∙ ap (down s.list.now) k.count

      new_is : flat t ≡ one_track row (flat s)
      new_is =
          let A : Set → Tracked = λ m. made m (down t.stack.now t.depth) (down t.list.now t.count) t.looped in
          let B : List ℕ → Tracked = λ l. made (add m x) (down t.stack.now t.depth) l t.looped in
          let C : Option ℕ → Tracked = λ o. made (add m x) (down t.stack.now t.depth) out o in
          let D : List ℕ → Tracked = λ st. made (add m x) st out (or_else s.looped (first_loop row (x ∷ []))) in
          ap A k.marked ∙ ap B listed ∙ ap C k.loops ∙ ap D (k.pushed_on ∙ ap (λ m. pushed m (row x) (down mem s.depth)) k.marked) ∙ sym (turn_new u)

      new_onward : Quiet (seen t) ranks (row x) → Onward row (flat s) → Onward row (one_track row (flat s))
      new_onward n o =
          let d = down_more mem s.depth h in
          let P : List ℕ → Type 0 = λ st. Onward row (made m st out s.looped) in
          let Q : List ℕ → Type 0 = λ st. Onward row (made (add m x) (pushed (add m x) (row x) st) out (or_else s.looped (first_loop row (x ∷ [])))) in
          let R : Tracked → Type 0 = Onward row in
          let done : (y : ℕ) → In y (row x) → add m x y ≡ true → In y out =
          λ y i v.
          let j = n y i (ap (λ f. f y) k.marked ∙ v) in
          let z = r.ranked y (rows_within g w x y i) in
          member_in y out (rank_some out y (omega arith)) in
          subst R (sym (turn_new u)) (subst Q (sym d) (onward_new row m x under out s.looped _ u done (subst P d o)))

      new_ready : Ready t
      new_ready =
          let a = left_add (λ y. length (row y)) m x g.nodes top_below u in
          let b = pushed_length (seen t) (row x) (down mem s.depth) in
          let c₁ = down_length mem s.depth in
          let c₂ = down_length t.stack.now t.depth in
          let c₃ = ap length k.pushed_on in
          let c₄ = ap (λ m. left (λ y. length (row y)) m g.nodes) k.marked in
          record {
            roomy = rw new_graph (omega (arith, a, b, c₁, c₂, c₃, c₄, r.roomy));
            known = λ y i. rw new_graph (⊎_elim (λ (j : In y (row x)). rows_within g w x y j) (λ (j : In y (down mem s.depth)). r.known y j) (pushed_in (seen t) (row x) (down mem s.depth) y (rw k.pushed_on at i)));
            ranked = λ y i. ap (λ l. get_or l y 0) k.ranks ∙ r.ranked y (rw new_graph at i) ∙ ap (λ l. rank l y) (sym listed);
            counted = rw (new_graph, listed, k.count) r.counted;
            onward = λ b. let R : Model → Type 0 = λ g. Onward (rows_of g) (flat t) in let S : Tracked → Type 0 = Onward row in subst R (sym new_graph) (subst S (sym new_is) (new_onward (k.calm b).1 (r.onward (k.calm b).0)));
          }

      pub took_new : Turned s t
      took_new = record { turn_is = new_is; again = new_ready }

    lower : (y : ℕ) → In y under → y < g.nodes
    lower y i = r.known y (rw (down_more mem s.depth h) (inr i))

    ranked_more : get_or ranks x 0 ≡ 0 → (y : ℕ) → y < g.nodes → get_or (set ranks x (s.count + 1)) y 0 ≡ rank (x ∷ out) y
    ranked_more z y l =
        let t = top_below in
        let n = down_length s.list.now s.count in
        ⊎_elim
        (λ (e : y ≡ x).
        let a = cond-true (eqb y x) (suc (length out)) (rank out y) (eq-eqb y x e) in
        let b = get_or-set_same ranks x (s.count + 1) 0 (omega (arith, s.tall)) in
        let b' : get_or (set ranks x (s.count + 1)) y 0 ≡ s.count + 1 = rw e b in
        omega arith)
        (λ (q : y ≡ x → ⊥). get_or-set_other ranks x y (s.count + 1) 0 q ∙ r.ranked y l ∙ sym (cond-false (eqb y x) (suc (length out)) (rank out y) (ne_eqb y x q)))
        (cases_eq y x)

    -- the top is old: it is finished, unless it was
    abbrev next_ranks : Bool → List ℕ
    next_ranks b = cond b (set ranks x (s.count + 1)) ranks

    abbrev next_list : Bool → List ℕ
    next_list b = cond b (set s.list.now s.count x) s.list.now

    abbrev next_count : Bool → ℕ
    next_count b = cond b (s.count + 1) s.count

    abbrev next_order : List ℕ
    next_order = cond (member x out) out (x ∷ out)

    finished : (b : Bool) → eqb (get_or ranks x 0) 0 ≡ b → down (next_list b) (next_count b) ≡ next_order
    finished true e =
        let z = eqb-true (get_or ranks x 0) 0 e in
        down_push s.list.now s.count x (list_room z) ∙ sym (cond-false (member x out) out (x ∷ out) (unlisted z))
    finished false e =
        let z : get_or ranks x 0 ≡ 0 → ⊥ = eqb-false (get_or ranks x 0) 0 e in
        let y = r.ranked x top_below in
        sym (cond-true (member x out) out (x ∷ out) (rank_some out x (pos (rank out x) (λ q. z (y ∙ q)))))
      where
        pos : (n : ℕ) → (n ≡ 0 → ⊥) → 0 < n
        pos zero q = absurd (q refl)
        pos (suc n) q = omega arith

    -- what is finished then, and its ranks
    record Finishing (ranks' : List ℕ) (count' : ℕ) : Type 0 where
      ranked : (y : ℕ) → y < g.nodes → get_or ranks' y 0 ≡ rank next_order y
      counted : count' + left (λ _. 1) (λ y. member y next_order) g.nodes ≡ g.nodes

    finishing : (b : Bool) → eqb (get_or ranks x 0) 0 ≡ b → Finishing (next_ranks b) (next_count b)
    finishing true e =
        let z = eqb-true (get_or ranks x 0) 0 e in
        let f = cond-false (member x out) out (x ∷ out) (unlisted z) in
        record {
          ranked = λ y k. ranked_more z y k ∙ ap (λ l. rank l y) (sym f);
          counted = let c = counts z in let P : List ℕ → Type 0 = λ l. s.count + 1 + left (λ _. 1) (λ y. member y l) g.nodes ≡ g.nodes in subst P (sym f) (omega arith);
        }
    finishing false e =
        let f : out ≡ next_order = finished false e in
        record {
          ranked = λ y k. r.ranked y k ∙ ap (λ l. rank l y) f;
          counted = let P : List ℕ → Type 0 = λ l. s.count + left (λ _. 1) (λ y. member y l) g.nodes ≡ g.nodes in subst P f r.counted;
        }

    module _ (is_old : m x ≡ true) (t : Search G M graphs maps) (k : Left x s t) where
      old_graph : graph_of t ≡ g
      old_graph = ap (λ b. graphs.model b.now) k.same.graph

      same : seen t ≡ m
      same = ap (λ m. maps.marked m.now) k.marks

      left_under : down t.stack.now t.depth ≡ under
      left_under = ap (λ l. down l t.depth) k.stack ∙ ap (down mem) k.depth

      ordered : down t.list.now t.count ≡ next_order
      ordered = ap (λ l. down l t.count) k.list ∙ ap (down (next_list (eqb (get_or ranks x 0) 0))) k.count ∙ finished (eqb (get_or ranks x 0) 0) refl

      old_is : flat t ≡ one_track row (flat s)
      old_is =
          let A : Set → Tracked = λ m. made m (down t.stack.now t.depth) (down t.list.now t.count) t.looped in
          let B : List ℕ → Tracked = λ st. made m st (down t.list.now t.count) t.looped in
          let C : Option ℕ → Tracked = λ o. made m under (down t.list.now t.count) o in
          let D : List ℕ → Tracked = λ l. made m under l s.looped in
          ap A same ∙ ap B left_under ∙ ap C k.looped ∙ ap D ordered ∙ sym (turn_old is_old)

      old_onward : Onward row (flat s) → Onward row (one_track row (flat s))
      old_onward t =
          let P : List ℕ → Type 0 = λ st. Onward row (made m st out s.looped) in
          let R : Tracked → Type 0 = Onward row in
          subst R (sym (turn_old is_old)) (onward_old row m x under out s.looped is_old (member x out) refl (subst P (down_more mem s.depth h) t))

      old_again : Ready t
      old_again =
          let f = finishing (eqb (get_or ranks x 0) 0) refl in
          record {
            roomy = rw (old_graph, same) (omega (arith, r.roomy));
            known = λ y i. rw old_graph (lower y (rw left_under at i));
            ranked = λ y i. ap (λ l. get_or l y 0) k.ranks ∙ f.ranked y (rw old_graph at i) ∙ ap (λ l. rank l y) (sym ordered);
            counted = rw (old_graph, ordered, k.count) f.counted;
            onward = λ b. let R : Model → Type 0 = λ g. Onward (rows_of g) (flat t) in let S : Tracked → Type 0 = Onward row in subst R (sym old_graph) (subst S (sym old_is) (old_onward (r.onward (sym k.back ∙ b))));
          }

      pub took_old : Turned s t
      took_old = record { turn_is = old_is; again = old_again }
