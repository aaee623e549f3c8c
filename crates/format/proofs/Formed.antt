-- An image is accepted exactly when it is well-formed. Assumes nothing.
use Rattle.std.proofs.Common.{◌≡◌, ℕ, zero, suc, ◌+◌, ◌-◌, ◌*◌, ◌<◌, ◌≤◌, min, Bool, true, cond, ◌&&◌, eqb, ltb, leb, ◌⊎◌, List, ◌++◌, length, Some, None, sym, refl, ap, ◌∙◌, subst, inl, inr, ⊎_elim, zero-add, arith}
use Rattle.std.proofs.lemmas.Bool.{cases_eq, and_from, leb-true, lt-ltb, le-leb, eq-eqb, ne_eqb}
use Rattle.model.specs.declared.Direction.{Direction}
use Rattle.model.specs.declared.Direction.TheVariants.{Outgoing, Incoming}
use Rattle.model.proofs.Sums.{sum_same, sum_climb}
use Rattle.format.specs.Format.{word, Tables, tables, total, is_due, due_edges, slice, WellFormed}
use Rattle.format.specs.Faults.{Fault, first, first_in, start_ok, entry_ok, bad_end, bad_start, bad_entry, layout_tests, table_tests, fault}
use Rattle.format.specs.Laws.{AcceptedWellFormed}
use Rattle.format.proofs.Lists.{Rises, listed_rises}
use Rattle.format.proofs.Rows.{all_dues, stored_size, stored_same}
use Rattle.format.proofs.Passed.{all_none, test_none, passed, sound, room_of}

-- Accepted, so well-formed.

pub formed : (b : List ℕ) → fault b ≡ None → WellFormed b
formed b e =
    let t = tables b in
    let w = sound t (passed b e) in
    let p = all_none (layout_tests b ++ table_tests b) e in
    record {
      kind = leb-true (word b 0) 1 (test_none _ 2 0 p.1.0);
      room = room_of b e;
      ends = w.ends;
      begins = w.opens;
      rows = λ d a l.
          let z = stored_size t w d a l in
          record {
            size = omega (arith, w.climbs d a l);
            same = ap (slice (t.entry d) (t.start d a)) (sym z) ∙ stored_same t w d a l;
          };
    }

-- Well-formed, so no test fails.

first_none : (ok : ℕ → Bool) (n i : ℕ) → ((j : ℕ) → i ≤ j → j < i + n → ok j ≡ true) → first ok i n ≡ None
first_none ok zero i h = refl
first_none ok (suc n) i h = rw (h i (omega arith) (omega arith)) (first_none ok n (i + 1) (λ j u v. h j (omega arith) (omega arith)))

rows_none : (ok : ℕ → ℕ → Bool) (s : ℕ → ℕ) (n a : ℕ) → ((c : ℕ) → a ≤ c → c < a + n → first (ok c) (s c) (s (c + 1) - s c) ≡ None) → first_in ok s a n ≡ None
rows_none ok s zero a h = refl
rows_none ok s (suc n) a h = rw (h a (omega arith) (omega arith)) (rows_none ok s n (a + 1) (λ c u v. h c (omega arith) (omega arith)))

module _ (x : ℕ → ℕ) (m : ℕ) (due : ℕ → Bool) (low : ℕ) where
  rises_ok : (n i lo : ℕ) → Rises due lo m (slice x i n) → ((i ≡ low → ⊥) → x (i - 1) < lo) → (j : ℕ) → i ≤ j → j < i + n → entry_ok x m due low j ≡ true
  rises_ok zero i lo r p j u v = absurd (omega arith)
  rises_ok (suc n) i lo r p j u v =
      let after : cond (eqb i low) true (ltb (x (i - 1)) (x i)) ≡ true =
      ⊎_elim
      (λ (e : i ≡ low). rw (eq-eqb i low e))
      (λ (d : i ≡ low → ⊥). rw (ne_eqb i low d) (lt-ltb (x (i - 1)) (x i) (omega (arith, p d, r.0))))
      (cases_eq i low) in
      ⊎_elim
      (λ (q : j ≡ i). rw q (and_from (ltb (x i) m && due (x i)) _ (and_from (ltb (x i) m) (due (x i)) (lt-ltb (x i) m r.1) r.2) after))
      (λ (d : j ≡ i → ⊥).
      let z : (i + 1) - 1 ≡ i = omega arith in
      let k = ap x z in
      rises_ok n (i + 1) (x i + 1) r.3 (λ _. omega arith) j (omega arith) (omega arith))
      (cases_eq j i)

module _ (b : List ℕ) (w : WellFormed b) where
  abbrev t : Tables
  t = tables b

  no_bad_end : bad_end t ≡ None
  no_bad_end = first_none (λ j. ltb (t.end j) t.nodes) (2 * t.edges) 0 (λ j _ l. lt-ltb (t.end j) t.nodes (end j (half j) (omega arith)))
    where
      half : (j : ℕ) → (e : ℕ) × ((j ≡ 2 * e) ⊎ (j ≡ 2 * e + 1))
      half zero = (0, inl refl)
      half (suc j) = let h = half j in ⊎_elim (λ (q : j ≡ 2 * h.0). (h.0, inr (omega arith))) (λ (q : j ≡ 2 * h.0 + 1). (h.0 + 1, inl (omega arith))) h.1

      end : (j : ℕ) → (e : ℕ) × ((j ≡ 2 * e) ⊎ (j ≡ 2 * e + 1)) → j < 2 * (tables b).edges → (tables b).end j < (tables b).nodes
      end j h l =
          ⊎_elim
          (λ (q : j ≡ 2 * h.0). rw q (w.ends h.0 (omega arith)).0)
          (λ (q : j ≡ 2 * h.0 + 1). rw q (w.ends h.0 (omega arith)).1)
          h.1

  module _ (d : Direction) where
    abbrev s : ℕ → ℕ
    s = t.start d

    climbs : (a : ℕ) → a < t.nodes → s a ≤ s (a + 1)
    climbs a l = omega (arith, (w.rows d a l).size)

    closes : s t.nodes ≡ total t
    closes =
        let c = sum_climb s t.nodes climbs in
        let q = sum_same (λ a. s (a + 1) - s a) (λ a. length (due_edges t d a)) t.nodes (λ a l. omega (arith, (w.rows d a l).size)) in
        let r = all_dues t d t.kind (λ e _ l. w.ends e (omega arith)) in
        let o = w.begins d in
        omega arith

    below : (n j : ℕ) → j + n ≡ t.nodes → s j ≤ total t
    below zero j e = let q : s j ≡ s t.nodes = ap s (omega arith) in omega (arith, closes)
    below (suc n) j e = omega (arith, climbs j (omega arith), below n (j + 1) (omega arith))

    start_fine : (j : ℕ) → j < t.nodes + 1 → start_ok s t.nodes (total t) j ≡ true
    start_fine j l =
        let from_last : cond (eqb j 0) (eqb (s j) 0) (leb (s (j - 1)) (s j)) ≡ true =
        ⊎_elim
        (λ (e : j ≡ 0). rw (eq-eqb j 0 e) (eq-eqb (s j) 0 (ap s e ∙ w.begins d)))
        (λ (n : j ≡ 0 → ⊥).
        let q : (j - 1) + 1 ≡ j = omega arith in
        let k = ap s q in
        rw (ne_eqb j 0 n) (le-leb (s (j - 1)) (s j) (omega (arith, climbs (j - 1) (omega arith)))))
        (cases_eq j 0) in
        let at_last : cond (eqb j t.nodes) (eqb (s j) (total t)) true ≡ true =
        ⊎_elim
        (λ (e : j ≡ t.nodes). rw (eq-eqb j t.nodes e) (eq-eqb (s j) (total t) (ap s e ∙ closes)))
        (λ (n : j ≡ t.nodes → ⊥). rw (ne_eqb j t.nodes n))
        (cases_eq j t.nodes) in
        and_from _ _ (and_from _ _ from_last (le-leb (s j) (total t) (below (t.nodes - j) j (omega arith)))) at_last

    no_bad_start : bad_start t d ≡ None
    no_bad_start = first_none (start_ok s t.nodes (total t)) (t.nodes + 1) 0 (λ j _ l. start_fine j (omega arith))

    row_rises : (a : ℕ) → a < t.nodes → Rises (is_due t d a) 0 t.edges (slice (t.entry d) (s a) (s (a + 1) - s a))
    row_rises a l =
        let h = w.rows d a l in
        let n : length (due_edges t d a) ≡ s (a + 1) - s a = omega (arith, h.size) in
        let P : List ℕ → Type 0 = Rises (is_due t d a) 0 t.edges in
        subst P (sym (ap (slice (t.entry d) (s a)) (sym n) ∙ h.same)) (rw zero-add at (listed_rises (is_due t d a) t.edges 0))

    no_bad_entry : bad_entry t d ≡ None
    no_bad_entry =
        rows_none (λ a. entry_ok (t.entry d) t.edges (is_due t d a) (s a)) s t.nodes 0
        (λ a _ l.
        first_none (entry_ok (t.entry d) t.edges (is_due t d a) (s a)) (s (a + 1) - s a) (s a)
        (rises_ok (t.entry d) t.edges (is_due t d a) (s a) (s (a + 1) - s a) (s a) 0 (row_rises a (omega arith)) (λ n. absurd (n refl))))

  pub unfaulted : fault b ≡ None
  unfaulted =
      let r = w.room in
      rw (
        le-leb 32 (length b) r.header,
        le-leb (word b 0) 1 w.kind,
        le-leb (word b 4) 65535 r.nodes,
        le-leb (word b 8) 262144 r.edges,
        le-leb (word b 12 + 8 * word b 8) (min (length b) 4294967296) r.ends,
        le-leb (word b 16 + 4 * (word b 4 + 1)) (min (length b) 4294967296) (r.starts Outgoing),
        le-leb (word b 20 + 4 * total t) (min (length b) 4294967296) (r.entries Outgoing),
        le-leb (word b 24 + 4 * (word b 4 + 1)) (min (length b) 4294967296) (r.starts Incoming),
        le-leb (word b 28 + 4 * total t) (min (length b) 4294967296) (r.entries Incoming),
        no_bad_end,
        no_bad_start Outgoing,
        no_bad_start Incoming,
        no_bad_entry Outgoing,
        no_bad_entry Incoming,
      )

pub same_images : AcceptedWellFormed
same_images b = record { accepted = formed b; well_formed = unfaulted b }

-- a refused image is not well-formed
pub malformed : (b : List ℕ) (f : Fault) → fault b ≡ Some f → WellFormed b → ⊥
malformed b f e w = let n = unfaulted b w in let z : ◌≡◌ {A = ℕ} 0 1 = cc in omega arith
