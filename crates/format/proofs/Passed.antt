-- What it means that no test fails. Assumes nothing.
use Rattle.std.proofs.Common.{◌≡◌, ℕ, zero, suc, ◌+◌, ◌-◌, ◌*◌, ◌<◌, ◌≤◌, min, Bool, true, false, cond, ◌&&◌, eqb, ltb, leb, List, [], ◌∷◌, ◌++◌, length, Some, None, Option, refl, ap, ⊎_elim, arith}
use Rattle.std.proofs.lemmas.Bool.{cases_eq, cases_Bool, and_parts, ltb-true, leb-true, eqb-true, eq-eqb, ne_eqb}
use Rattle.model.specs.declared.Direction.{Direction}
use Rattle.model.specs.declared.Direction.TheVariants.{Outgoing, Incoming}
use Rattle.format.specs.Format.{word, Tables, tables, total, is_due, Room}
use Rattle.format.specs.Faults.{Fault, test, first, or_in, first_in, in_table, firstly, fits, start_ok, entry_ok, bad_end, bad_start, bad_entry, header_tests, room_tests, table_tests, layout_tests, fault}
use Rattle.format.proofs.Rows.{Sound}
use Rattle.format.proofs.Steps.{rows_below}

first_all : (ok : ℕ → Bool) (n i : ℕ) → first ok i n ≡ None → (j : ℕ) → i ≤ j → j < i + n → ok j ≡ true
first_all ok zero i e j u v = absurd (omega arith)
first_all ok (suc n) i e j u v =
    ⊎_elim
    (λ (y : ok i ≡ true).
    ⊎_elim
    (λ (q : j ≡ i). rw q y)
    (λ (d : j ≡ i → ⊥). first_all ok n (i + 1) (rw y at e) j (omega arith) (omega arith))
    (cases_eq j i))
    (λ (y : ok i ≡ false). let z : ◌≡◌ {A = ℕ} 0 1 = cc in absurd (omega arith))
    (cases_Bool (ok i))

or_parts : (x y : Option ℕ) → or_in x y ≡ None → (x ≡ None) × (y ≡ None)
or_parts None y e = (refl, e)
or_parts (Some i) y e = let z : ◌≡◌ {A = ℕ} 0 1 = cc in absurd (omega arith)

first_in_all : (ok : ℕ → ℕ → Bool) (s : ℕ → ℕ) (n a : ℕ) → first_in ok s a n ≡ None → (c : ℕ) → a ≤ c → c < a + n → first (ok c) (s c) (s (c + 1) - s c) ≡ None
first_in_all ok s zero a e c u v = absurd (omega arith)
first_in_all ok s (suc n) a e c u v =
    let p = or_parts (first (ok a) (s a) (s (a + 1) - s a)) (first_in ok s (a + 1) n) e in
    ⊎_elim
    (λ (q : c ≡ a). rw q p.0)
    (λ (d : c ≡ a → ⊥). first_in_all ok s n (a + 1) p.1 c (omega arith) (omega arith))
    (cases_eq c a)

abbrev pub AllNone : List (Option Fault) → Type 0
AllNone [] = Unit {0}
AllNone (x ∷ xs) = (x ≡ None) × AllNone xs

pub all_none : (xs : List (Option Fault)) → firstly xs ≡ None → AllNone xs
all_none [] e = tt
all_none (None ∷ xs) e = (refl, all_none xs e)
all_none (Some f ∷ xs) e = let z : ◌≡◌ {A = ℕ} 0 1 = cc in absurd (omega arith)

pub test_none : (ok : Bool) (k o : ℕ) → test ok k o ≡ None → ok ≡ true
test_none true k o e = refl
test_none false k o e = let z : ◌≡◌ {A = ℕ} 0 1 = cc in absurd (omega arith)

table_none : (k base : ℕ) (x : Option ℕ) → in_table k base x ≡ None → x ≡ None
table_none k base None e = refl
table_none k base (Some j) e = let z : ◌≡◌ {A = ℕ} 0 1 = cc in absurd (omega arith)

-- the tests over tables, each passed
pub record Passed (t : Tables) : Type 0 where
  pub nodes : t.nodes ≤ 65535
  pub edges : t.edges ≤ 262144
  pub ends : bad_end t ≡ None
  pub starts : (d : Direction) → bad_start t d ≡ None
  pub entries : (d : Direction) → bad_entry t d ≡ None

pub passed : (b : List ℕ) → fault b ≡ None → Passed (tables b)
passed b e =
    let p = all_none (layout_tests b ++ table_tests b) e in
    let q = p.1.1.1.1.1.1.1.1.1 in
    let t = tables b in
    record {
      nodes = leb-true t.nodes 65535 (test_none _ 3 4 p.1.1.0);
      edges = leb-true t.edges 262144 (test_none _ 3 8 p.1.1.1.0);
      ends = table_none 5 (word b 12) (bad_end t) q.0;
      starts = elim [ Outgoing ↦ table_none 6 (word b 16) (bad_start t Outgoing) q.1.0 | Incoming ↦ table_none 6 (word b 24) (bad_start t Incoming) q.1.1.0 ];
      entries = elim [ Outgoing ↦ table_none 7 (word b 20) (bad_entry t Outgoing) q.1.1.1.0 | Incoming ↦ table_none 7 (word b 28) (bad_entry t Incoming) q.1.1.1.1.0 ];
    }

record Start (s : ℕ → ℕ) (n d j : ℕ) : Type 0 where
  begins : j ≡ 0 → s j ≡ 0
  climbs : 0 < j → s (j - 1) ≤ s j
  ends : j ≡ n → s j ≡ d
  most : s j ≤ d

start_parts : (s : ℕ → ℕ) (n d j : ℕ) → start_ok s n d j ≡ true → Start s n d j
start_parts s n d j h =
    let p = and_parts (cond (eqb j 0) (eqb (s j) 0) (leb (s (j - 1)) (s j)) && leb (s j) d) _ h in
    let q = and_parts (cond (eqb j 0) (eqb (s j) 0) (leb (s (j - 1)) (s j))) _ p.0 in
    record {
      begins = λ e. eqb-true (s j) 0 (rw (eq-eqb j 0 e) at q.0);
      climbs = λ l. leb-true (s (j - 1)) (s j) (rw (ne_eqb j 0 (λ e. omega arith)) at q.0);
      ends = λ e. eqb-true (s j) d (rw (eq-eqb j n e) at p.1);
      most = leb-true (s j) d q.1;
    }

pub start_most : (t : Tables) (d : Direction) → bad_start t d ≡ None → (j : ℕ) → j ≤ t.nodes → t.start d j ≤ total t
start_most t d e j l =
    (start_parts (t.start d) t.nodes (total t) j (first_all (start_ok (t.start d) t.nodes (total t)) (t.nodes + 1) 0 e j (omega arith) (omega arith))).most

pub sound : (t : Tables) → Passed t → Sound t
sound t p =
    let start : (d : Direction) (j : ℕ) → j < t.nodes + 1 → Start (t.start d) t.nodes (total t) j =
    λ d j l. start_parts (t.start d) t.nodes (total t) j (first_all (start_ok (t.start d) t.nodes (total t)) (t.nodes + 1) 0 (p.starts d) j (omega arith) (omega arith)) in
    let end : (j : ℕ) → j < 2 * t.edges → t.end j < t.nodes =
    λ j l. ltb-true (t.end j) t.nodes (first_all (λ j. ltb (t.end j) t.nodes) (2 * t.edges) 0 p.ends j (omega arith) (omega arith)) in
    record {
      few_nodes = p.nodes;
      few_edges = p.edges;
      ends = λ e l. (end (2 * e) (omega arith), end (2 * e + 1) (omega arith));
      opens = λ d. (start d 0 (omega arith)).begins refl;
      climbs = λ d a l.
          let q : (a + 1) - 1 ≡ a = omega arith in
          let r = ap (t.start d) q in
          omega (arith, (start d (a + 1) (omega arith)).climbs (omega arith));
      closes = λ d. (start d t.nodes (omega arith)).ends refl;
      entries = λ d a l i u v.
          first_all (entry_ok (t.entry d) t.edges (is_due t d a) (t.start d a)) (t.start d (a + 1) - t.start d a) (t.start d a)
          (first_in_all (λ a. entry_ok (t.entry d) t.edges (is_due t d a) (t.start d a)) (t.start d) t.nodes 0 (p.entries d) a (omega arith) (omega arith))
          i u (omega arith);
    }

pub start_climbs : (t : Tables) (d : Direction) → bad_start t d ≡ None → (a : ℕ) → a < t.nodes → t.start d a ≤ t.start d (a + 1)
start_climbs t d e a l =
    let q : (a + 1) - 1 ≡ a = omega arith in
    let r = ap (t.start d) q in
    omega (arith, (start_parts (t.start d) t.nodes (total t) (a + 1) (first_all (start_ok (t.start d) t.nodes (total t)) (t.nodes + 1) 0 e (a + 1) (omega arith) (omega arith))).climbs (omega arith))

-- an entry at fault lies in the table
pub entry_below : (t : Tables) (d : Direction) (i : ℕ) → bad_start t d ≡ None → bad_entry t d ≡ Some i → i < total t
entry_below t d i e f = rows_below _ (t.start d) (total t) t.nodes 0 i (λ c l. start_most t d e (c + 1) (omega arith)) (λ c l. start_climbs t d e c (omega arith)) f

-- the tables lie inside the bytes
fits_in : (b : List ℕ) (o size : ℕ) → fits b o size ≡ true → o + size ≤ min (length b) 4294967296
fits_in b o size h = leb-true (o + size) (min (length b) 4294967296) h

pub room : (b : List ℕ) → firstly (header_tests b) ≡ None → firstly (room_tests b) ≡ None → Room b
room b e f =
    let p = all_none (header_tests b) e in
    let q = all_none (room_tests b) f in
    record {
      header = leb-true 32 (length b) (test_none _ 1 (length b) p.0);
      nodes = leb-true (word b 4) 65535 (test_none _ 3 4 p.1.1.0);
      edges = leb-true (word b 8) 262144 (test_none _ 3 8 p.1.1.1.0);
      ends = fits_in b (word b 12) (8 * word b 8) (test_none _ 4 12 q.0);
      starts = elim [ Outgoing ↦ fits_in b (word b 16) (4 * (word b 4 + 1)) (test_none _ 4 16 q.1.0) | Incoming ↦ fits_in b (word b 24) (4 * (word b 4 + 1)) (test_none _ 4 24 q.1.1.1.0) ];
      entries = elim [ Outgoing ↦ fits_in b (word b 20) (4 * total (tables b)) (test_none _ 4 20 q.1.1.0) | Incoming ↦ fits_in b (word b 28) (4 * total (tables b)) (test_none _ 4 28 q.1.1.1.1.0) ];
    }

pub room_of : (b : List ℕ) → fault b ≡ None → Room b
room_of b e =
    let p = all_none (layout_tests b ++ table_tests b) e in
    let q = p.1.1.1.1 in
    room b (rw (p.0, p.1.0, p.1.1.0, p.1.1.1.0)) (rw (q.0, q.1.0, q.1.1.0, q.1.1.1.0, q.1.1.1.1.0))
