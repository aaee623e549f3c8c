-- An accepted image is a lawful graph. Assumes nothing.
use Rattle.std.proofs.Common.{◌≡◌, ℕ, zero, suc, ◌+◌, ◌-◌, ◌<◌, ◌≤◌, Bool, true, false, cond, ◌⊎◌, List, [], ◌∷◌, length, is_some, Some, None, sym, refl, ap, ◌∙◌, subst, inl, inr, ⊎_elim, arith}
use Rattle.std.proofs.lemmas.Bool.Decides.{nat_tests}
use Rattle.std.proofs.lemmas.Bool.{cases_eq, cases_Bool, cases_lt, ltb-true, lt-ltb, le-ltb, le-leb, lt-leb, eq-eqb, ne_eqb, both_ways}
use Rattle.model.specs.declared.Direction.{Direction}
use Rattle.model.specs.declared.Direction.TheVariants.{Outgoing, Incoming}
use Rattle.model.specs.declared.Kind.{Kind}
use Rattle.model.specs.declared.Kind.TheVariants.{OneWay, TwoWay}
use Rattle.model.specs.Model.{Entry, Ends, Lawful, Row, Ascends, count_of, from, front, due, bit, Far, Fars, other}
use Rattle.format.specs.Format.{Tables, tables, tail_of, head_of, total, is_due, listed, slice, numbered, far, row, graph}
use Rattle.format.specs.Faults.{fault}
use Rattle.format.specs.Laws.{AcceptedGraph}
use Rattle.format.proofs.Lists.{listed_most}
use Rattle.format.proofs.Rows.{Sound, row_same, entry_parts}
use Rattle.format.proofs.Passed.{passed, sound, start_most}

-- the far node of a due edge
far_due : (k : Kind) (d : Direction) (u v a : ℕ) → due k d (Some (u, v)) a ≡ true → Far (Some (u, v)) a (other (u, v) a)
far_due OneWay Outgoing u v a h = (refl, grind (arith, nat_tests))
far_due OneWay Incoming u v a h = (refl, grind (arith, nat_tests))
far_due TwoWay Outgoing u v a h = (refl, grind (arith, nat_tests))
far_due TwoWay Incoming u v a h = (refl, grind (arith, nat_tests))

-- a numbered list as a row
numbered_ascends : (f : ℕ → ℕ) (es : List ℕ) (p : ℕ) → p + length es ≤ 262144 → Ascends p (numbered f p es)
numbered_ascends f [] p h = omega arith
numbered_ascends f (e ∷ es) p h = (omega arith, numbered_ascends f es (p + 1) (omega arith))

module _ (f : ℕ → ℕ) (has : ℕ → Bool) (e : ℕ) where
  count_out : (n lo p : ℕ) → (e < lo) ⊎ (lo + n ≤ e) → count_of e (numbered f p (listed has lo n)) ≡ 0
  count_out zero lo p h = refl
  count_out (suc n) lo p h =
      let d = ne_eqb lo e (λ q. ⊎_elim (λ (l : e < lo). omega arith) (λ (l : lo + suc n ≤ e). omega arith) h) in
      let on : (e < lo + 1) ⊎ (lo + 1 + n ≤ e) = ⊎_elim (λ (l : e < lo). inl (omega arith)) (λ (l : lo + suc n ≤ e). inr (omega arith)) h in
      elim (has lo) as (λ b. count_of e (numbered f p (cond b (lo ∷ listed has (lo + 1) n) (listed has (lo + 1) n))) ≡ 0) [ true ↦ rw d (count_out n (lo + 1) (p + 1) on) | false ↦ count_out n (lo + 1) p on ]

  count_in : (n lo p : ℕ) → lo ≤ e → e < lo + n → count_of e (numbered f p (listed has lo n)) ≡ bit (has e)
  count_in zero lo p u v = absurd (omega arith)
  count_in (suc n) lo p u v =
      ⊎_elim
      (λ (q : lo ≡ e).
      let d = eq-eqb lo e q in
      let z : (p : ℕ) → count_of e (numbered f p (listed has (lo + 1) n)) ≡ 0 = λ p. count_out n (lo + 1) p (inl (omega arith)) in
      let r : count_of e (numbered f p (listed has lo (suc n))) ≡ bit (has lo) =
      elim (has lo) as (λ b. count_of e (numbered f p (cond b (lo ∷ listed has (lo + 1) n) (listed has (lo + 1) n))) ≡ bit b) [ true ↦ rw d (ap (λ n. 1 + n) (z (p + 1))) | false ↦ z p ] in
      r ∙ ap (λ x. bit (has x)) q)
      (λ (q : lo ≡ e → ⊥).
      let d = ne_eqb lo e q in
      elim (has lo) as (λ b. count_of e (numbered f p (cond b (lo ∷ listed has (lo + 1) n) (listed has (lo + 1) n))) ≡ bit (has e)) [ true ↦ rw d (count_in n (lo + 1) (p + 1) (omega arith) (omega arith)) | false ↦ count_in n (lo + 1) p (omega arith) (omega arith) ])
      (cases_eq lo e)

module _ (t : Tables) (d : Direction) (a : ℕ) where
  exact : (e : ℕ) → count_of e (numbered (far t a) 0 (listed (is_due t d a) 0 t.edges)) ≡ bit (due t.kind d ((graph t).ends e) a)
  exact e =
      ⊎_elim
      (λ (l : e < t.edges). rw (lt-ltb e t.edges l) (count_in (far t a) (is_due t d a) e t.edges 0 0 (omega arith) (omega arith)))
      (λ (l : t.edges ≤ e). rw (le-ltb e t.edges l) (count_out (far t a) (is_due t d a) e t.edges 0 0 (inr (omega arith))))
      (cases_lt e t.edges)

  fars : (n lo p : ℕ) → lo + n ≤ t.edges → Fars (graph t).ends a (numbered (far t a) p (listed (is_due t d a) lo n))
  fars zero lo p h = tt
  fars (suc n) lo p h =
      ⊎_elim
      (λ (y : is_due t d a lo ≡ true). rw y (rw (lt-ltb lo t.edges (omega arith)) (far_due t.kind d (tail_of t lo) (head_of t lo) a y), fars n (lo + 1) (p + 1) (omega arith)))
      (λ (y : is_due t d a lo ≡ false). rw y (fars n (lo + 1) p (omega arith)))
      (cases_Bool (is_due t d a lo))

pub graph_lawful : (t : Tables) → Sound t → Lawful (graph t)
graph_lawful t w = record {
  few_nodes = w.few_nodes;
  few_edges = w.few_edges;
  within = λ a h. ltb-true a t.nodes h;
  known = λ e u v is.
      ⊎_elim
      (λ (l : e < t.edges).
      let q : Some (tail_of t e, head_of t e) ≡ Some (u, v) = rw (lt-ltb e t.edges l) at is in
      let p : tail_of t e ≡ u = ap (λ o. near_of o) q in
      let r : head_of t e ≡ v = ap (λ o. far_end_of o) q in
      let k = w.ends e l in
      (l, rw (← p) (lt-ltb (tail_of t e) t.nodes k.0), rw (← r) (lt-ltb (head_of t e) t.nodes k.1)))
      (λ (l : t.edges ≤ e). let q : None ≡ Some (u, v) = rw (le-ltb e t.edges l) at is in let z : ◌≡◌ {A = ℕ} 0 1 = cc in absurd (omega arith))
      (cases_lt e t.edges);
  rows = λ d a.
      let P : List Entry → Type 0 = λ r. Row t.kind d (graph t).ends a r in
      subst P (sym (row_same t w d a)) (record {
        ascends = numbered_ascends (far t a) (listed (is_due t d a) 0 t.edges) 0 (omega (arith, listed_most (is_due t d a) 0 t.edges, w.few_edges));
        exact = exact t d a;
        fars = fars t d a t.edges 0 0 (omega arith);
      });
  even = λ k a.
      let by : Direction → Kind → List Entry = λ d k. numbered (far t a) 0 (listed (λ e. due k d (Some (tail_of t e, head_of t e)) a) 0 t.edges) in
      row_same t w Incoming a ∙ ap (by Incoming) k ∙ sym (ap (by Outgoing) k) ∙ sym (row_same t w Outgoing a);
}
  where
    near_of : Ends → ℕ
    near_of None = 0
    near_of (Some (u, v)) = u

    far_end_of : Ends → ℕ
    far_end_of None = 0
    far_end_of (Some (u, v)) = v

pub accepted : AcceptedGraph
accepted b e = graph_lawful (tables b) (sound (tables b) (passed b e))

-- as a ghost field has it
pub no_fault : (b : List ℕ) → is_some (fault b) ≡ false → fault b ≡ None
no_fault b h = elim (fault b) as (λ o. is_some o ≡ false → o ≡ None) [ None ↦ λ _. refl | Some f ↦ λ h. absurd (both_ways true h refl) ] h

pub accepted_graph : (b : List ℕ) → is_some (fault b) ≡ false → Lawful (graph (tables b))
accepted_graph b h = accepted b (no_fault b h)

-- what a row question reads
pub record Span (t : Tables) (d : Direction) (a : ℕ) : Type 0 where
  pub up : t.start d a ≤ t.start d (a + 1)
  pub within : t.start d (a + 1) ≤ total t
  pub known : (i : ℕ) → t.start d a ≤ i → i < t.start d (a + 1) → t.entry d i < t.edges
  pub due : (i : ℕ) → t.start d a ≤ i → i < t.start d (a + 1) → is_due t d a (t.entry d i) ≡ true

pub span_of : (b : List ℕ) → fault b ≡ None → (d : Direction) (a : ℕ) → a < (tables b).nodes → Span (tables b) d a
span_of b e d a l =
    let t = tables b in
    let p = passed b e in
    let w = sound t p in
    record {
      up = w.climbs d a l;
      within = start_most t d (p.starts d) (a + 1) (omega arith);
      known = λ i u v. (entry_parts (t.entry d) t.edges (is_due t d a) (t.start d a) i (w.entries d a l i u v)).0;
      due = λ i u v. (entry_parts (t.entry d) t.edges (is_due t d a) (t.start d a) i (w.entries d a l i u v)).1;
    }

numbered_at : (f x : ℕ → ℕ) (n i p q : ℕ) → p ≤ q → q < p + n → front (from (numbered f p (slice x i n)) q) ≡ Some (q, x (i + q - p), f (x (i + q - p)))
numbered_at f x zero i p q u v = absurd (omega arith)
numbered_at f x (suc n) i p q u v =
    ⊎_elim
    (λ (e : q ≡ p). let z : i + q - p ≡ i = omega arith in rw (le-leb q p (omega arith), z, e))
    (λ (d : q ≡ p → ⊥). let z : i + q - p ≡ i + 1 + q - (p + 1) = omega arith in rw (lt-leb q p (omega arith), z) (numbered_at f x n (i + 1) (p + 1) q (omega arith) (omega arith)))
    (cases_eq q p)

numbered_past : (f x : ℕ → ℕ) (n i p q : ℕ) → p + n ≤ q → front (from (numbered f p (slice x i n)) q) ≡ None
numbered_past f x zero i p q u = refl
numbered_past f x (suc n) i p q u = rw (lt-leb q p (omega arith)) (numbered_past f x n (i + 1) (p + 1) q (omega arith))

module _ (t : Tables) (d : Direction) (a q : ℕ) where
  pub row_past : a < t.nodes → t.start d (a + 1) - t.start d a ≤ q → None ≡ front (from (row t d a) q)
  row_past l h = rw (lt-ltb a t.nodes l) (sym (numbered_past (far t a) (t.entry d) (t.start d (a + 1) - t.start d a) (t.start d a) 0 q (omega arith)))

  pub row_at : a < t.nodes → q < t.start d (a + 1) - t.start d a → Some (q, t.entry d (t.start d a + q), far t a (t.entry d (t.start d a + q))) ≡ front (from (row t d a) q)
  row_at l h =
      let z : t.start d a + q - 0 ≡ t.start d a + q = omega arith in
      rw (lt-ltb a t.nodes l) (sym (rw z at (numbered_at (far t a) (t.entry d) (t.start d (a + 1) - t.start d a) (t.start d a) 0 q (omega arith) (omega arith))))

-- the same over numbers that were read
module _ (b : List ℕ) (none : fault b ≡ None) (d : Direction) (a q low high e : ℕ) (present : a < (tables b).nodes) (is-low : low ≡ (tables b).start d a) (is-high : high ≡ (tables b).start d (a + 1)) (inside : q < high - low) where
  pub read_inside : low + q < total (tables b)
  read_inside = let s = span_of b none d a present in omega (arith, s.up, s.within)

  pub read_known : e ≡ (tables b).entry d (low + q) → e < (tables b).edges
  read_known is-e =
      let s = span_of b none d a present in
      omega (arith, s.known (low + q) (omega arith) (omega (arith, s.up)))

  pub read_due : e ≡ (tables b).entry d (low + q) → is_due (tables b) d a e ≡ true
  read_due is-e =
      let s = span_of b none d a present in
      rw (is-e, is-low) (s.due ((tables b).start d a + q) (omega arith) (omega (arith, s.up)))

  pub read_found : (f : ℕ) → e ≡ (tables b).entry d (low + q) → f ≡ far (tables b) a e → Some (q, e, f) ≡ front (from (row (tables b) d a) q)
  read_found f is-e is_f = rw (is_f, is-e, is-low) (row_at (tables b) d a q present (omega arith))
