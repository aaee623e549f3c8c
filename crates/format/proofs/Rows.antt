-- Sound tables: each stored row has exactly the due edges, ascending. Assumes nothing.
use Rattle.std.proofs.Common.{◌≡◌, ℕ, zero, suc, ◌+◌, ◌-◌, ◌*◌, ◌<◌, ◌≤◌, Bool, true, false, ◌&&◌, eqb, ltb, [], length, Some, refl, ap, ◌∙◌, ⊎_elim, arith}
use Rattle.std.proofs.lemmas.Bool.{and_parts, ltb-true, lt-ltb, le-ltb, ne_eqb, cases_lt}
use Rattle.model.specs.declared.Direction.{Direction}
use Rattle.model.specs.declared.Direction.TheVariants.{Outgoing, Incoming}
use Rattle.model.specs.declared.Kind.{Kind}
use Rattle.model.specs.declared.Kind.TheVariants.{OneWay, TwoWay}
use Rattle.model.specs.Model.{bit, due, sum}
use Rattle.model.proofs.Sums.{sum_add, sum_none, sum_tight, sum_climb, sum_hit, sum_ends}
use Rattle.format.specs.Format.{Tables, tail_of, head_of, loops, due_count, total, is_due, listed, slice, numbered, far, row}
use Rattle.format.specs.Faults.{entry_ok}
use Rattle.format.proofs.Lists.{listed_more, Rises, rises_short, rises_same, slice_length}

-- what the tests of `open` establish
pub record Sound (t : Tables) : Type 0 where
  pub few_nodes : t.nodes ≤ 65535
  pub few_edges : t.edges ≤ 262144
  pub ends : (e : ℕ) → e < t.edges → (tail_of t e < t.nodes) × (head_of t e < t.nodes)
  pub opens : (d : Direction) → t.start d 0 ≡ 0
  pub climbs : (d : Direction) (a : ℕ) → a < t.nodes → t.start d a ≤ t.start d (a + 1)
  pub closes : (d : Direction) → t.start d t.nodes ≡ total t
  pub entries : (d : Direction) (a : ℕ) → a < t.nodes → (i : ℕ) → t.start d a ≤ i → i < t.start d (a + 1) → entry_ok (t.entry d) t.edges (is_due t d a) (t.start d a) i ≡ true

module _ (x : ℕ → ℕ) (m : ℕ) (due : ℕ → Bool) (low : ℕ) where
  pub entry_parts : (i : ℕ) → entry_ok x m due low i ≡ true → (x i < m) × (due (x i) ≡ true) × ((i ≡ low → ⊥) → x (i - 1) < x i)
  entry_parts i h =
      let p = and_parts (ltb (x i) m && due (x i)) _ h in
      let q = and_parts (ltb (x i) m) (due (x i)) p.0 in
      (ltb-true (x i) m q.0, q.1, λ d. ltb-true (x (i - 1)) (x i) (rw (ne_eqb i low d) at p.1))

  slice_rises : (n i lo : ℕ) → low ≤ i → (0 < n → lo ≤ x i) → ((j : ℕ) → i ≤ j → j < i + n → entry_ok x m due low j ≡ true) → Rises due lo m (slice x i n)
  slice_rises zero i lo l p h = tt
  slice_rises (suc n) i lo l p h =
      let k = entry_parts i (h i (omega arith) (omega arith)) in
      let next : 0 < n → x i + 1 ≤ x (i + 1) =
      λ z.
      let k₁ = entry_parts (i + 1) (h (i + 1) (omega arith) (omega arith)) in
      let q : (i + 1) - 1 ≡ i = omega arith in
      let r = ap x q in
      omega (arith, k₁.2 (λ e. omega arith)) in
      (p (omega arith), k.0, k.1, slice_rises n (i + 1) (x i + 1) (omega arith) next (λ j u v. h j (omega arith) (omega arith)))

-- how many are due in all rows
module _ (t : Tables) (d : Direction) where
  abbrev pub Ends : ℕ → ℕ → Type 0
  Ends lo n = (e : ℕ) → lo ≤ e → e < lo + n → (tail_of t e < t.nodes) × (head_of t e < t.nodes)

  abbrev pub due_of : Kind → ℕ → ℕ → Bool
  due_of k a e = due k d (Some (tail_of t e, head_of t e)) a

  abbrev pub all : Kind → ℕ → ℕ → ℕ
  all k lo n = sum (λ a. length (listed (due_of k a) lo n)) t.nodes

  all_more : (k : Kind) (lo n : ℕ) → all k lo (suc n) ≡ sum (λ a. bit (due_of k a lo)) t.nodes + all k (lo + 1) n
  all_more k lo n = sum_add (λ a. bit (due_of k a lo)) (λ a. length (listed (due_of k a) (lo + 1) n)) _ t.nodes (λ a _. listed_more (due_of k a) lo n)

  one_hit : (e : ℕ) → (tail_of t e < t.nodes) × (head_of t e < t.nodes) → sum (λ a. bit (due_of OneWay a e)) t.nodes ≡ 1
  one_hit e h = elim d as (λ d. sum (λ a. bit (due OneWay d (Some (tail_of t e, head_of t e)) a)) t.nodes ≡ 1) [ Outgoing ↦ sum_hit (tail_of t e) t.nodes h.0 | Incoming ↦ sum_hit (head_of t e) t.nodes h.1 ]

  two_hit : (e : ℕ) → (tail_of t e < t.nodes) × (head_of t e < t.nodes) → sum (λ a. bit (due_of TwoWay a e)) t.nodes + bit (eqb (tail_of t e) (head_of t e)) ≡ 2
  two_hit e h =
      let r = sum_ends (tail_of t e) (head_of t e) t.nodes h.0 h.1 in
      elim d as (λ d. sum (λ a. bit (due TwoWay d (Some (tail_of t e, head_of t e)) a)) t.nodes + bit (eqb (tail_of t e) (head_of t e)) ≡ 2) [ Outgoing ↦ r | Incoming ↦ r ]

  all_one : (n lo : ℕ) → Ends lo n → all OneWay lo n ≡ n
  all_one zero lo h = sum_none t.nodes
  all_one (suc n) lo h =
      let m = all_more OneWay lo n in
      let k = one_hit lo (h lo (omega arith) (omega arith)) in
      let r = all_one n (lo + 1) (λ e u v. h e (omega arith) (omega arith)) in
      omega arith

  all_two : (n lo : ℕ) → Ends lo n → all TwoWay lo n + loops t lo n ≡ 2 * n
  all_two zero lo h = let z = sum_none t.nodes in omega arith
  all_two (suc n) lo h =
      let m = all_more TwoWay lo n in
      let k = two_hit lo (h lo (omega arith) (omega arith)) in
      let r = all_two n (lo + 1) (λ e u v. h e (omega arith) (omega arith)) in
      omega arith

  pub all_dues : (k : Kind) → Ends 0 t.edges → all k 0 t.edges ≡ due_count k t.edges (loops t 0 t.edges)
  all_dues OneWay h = all_one t.edges 0 h
  all_dues TwoWay h = let r = all_two t.edges 0 h in omega arith

listed_none : (due : ℕ → Bool) (n lo : ℕ) → ((e : ℕ) → lo ≤ e → e < lo + n → due e ≡ false) → listed due lo n ≡ []
listed_none due zero lo h = refl
listed_none due (suc n) lo h = rw (h lo (omega arith) (omega arith)) (listed_none due n (lo + 1) (λ e u v. h e (omega arith) (omega arith)))

module _ (t : Tables) (w : Sound t) (d : Direction) where
  abbrev pub size : ℕ → ℕ
  size a = t.start d (a + 1) - t.start d a

  stored_rises : (a : ℕ) → a < t.nodes → Rises (is_due t d a) 0 t.edges (slice (t.entry d) (t.start d a) (size a))
  stored_rises a l =
      let c = w.climbs d a l in
      slice_rises (t.entry d) t.edges (is_due t d a) (t.start d a) (size a) (t.start d a) 0 (omega arith) (λ _. omega arith) (λ j u v. w.entries d a l j u (omega arith))

  -- the counting argument
  pub stored_size : (a : ℕ) → a < t.nodes → size a ≡ length (listed (is_due t d a) 0 t.edges)
  stored_size =
      let climb = sum_climb (t.start d) t.nodes (w.climbs d) in
      let all = all_dues t d t.kind (λ e _ l. w.ends e (omega arith)) in
      let o = w.opens d in
      let c = w.closes d in
      sum_tight size (λ a. length (listed (is_due t d a) 0 t.edges)) t.nodes
      (λ a l.
      let r = rises_short (is_due t d a) t.edges t.edges 0 _ (omega arith) (stored_rises a l) in
      let q = slice_length (t.entry d) (t.start d a) (size a) in
      omega arith)
      (omega arith)

  pub stored_same : (a : ℕ) → a < t.nodes → slice (t.entry d) (t.start d a) (size a) ≡ listed (is_due t d a) 0 t.edges
  stored_same a l =
      rises_same (is_due t d a) t.edges t.edges 0 _ (omega arith) (stored_rises a l) (slice_length (t.entry d) (t.start d a) (size a) ∙ stored_size a l)

  none_due : (k : Kind) (a : ℕ) → t.nodes ≤ a → (e : ℕ) → e < t.edges → due k d (Some (tail_of t e, head_of t e)) a ≡ false
  none_due k a l e m =
      let h = w.ends e m in
      let p = ne_eqb (tail_of t e) a (λ q. omega (arith, h.0)) in
      let q = ne_eqb (head_of t e) a (λ q. omega (arith, h.1)) in
      both k d p q
    where
      both : (k : Kind) (d : Direction) → eqb (tail_of t e) a ≡ false → eqb (head_of t e) a ≡ false → due k d (Some (tail_of t e, head_of t e)) a ≡ false
      both OneWay Outgoing p q = p
      both OneWay Incoming p q = q
      both TwoWay Outgoing p q = rw p q
      both TwoWay Incoming p q = rw p q

  -- every row, also that of an absent node
  pub row_same : (a : ℕ) → row t d a ≡ numbered (far t a) 0 (listed (is_due t d a) 0 t.edges)
  row_same a =
      ⊎_elim
      (λ (l : a < t.nodes). rw (lt-ltb a t.nodes l) (ap (numbered (far t a) 0) (stored_same a l)))
      (λ (l : t.nodes ≤ a). rw (le-ltb a t.nodes l, listed_none (is_due t d a) t.edges 0 (λ e _ m. none_due t.kind a l e (omega arith))))
      (cases_lt a t.nodes)
