-- A step over lent memory does what the loop over a stack of open nodes does. Assumes nothing.
use Rattle.std.specs.Prelude.{All}
use Rattle.std.proofs.Common.{◌≡◌, ℕ, zero, suc, ◌+◌, ◌-◌, ◌<◌, ◌≤◌, min, Bool, true, false, cond, not, eqb, ltb, leb, List, [], ◌∷◌, length, get_or, set, Some, None, Option, sym, refl, ap, ◌∙◌, subst, inl, inr, ⊎_elim, arith}
use Rattle.std.proofs.lemmas.List.Elements.{All-nil, All-cons}
use Rattle.std.proofs.lemmas.List.{length-set, get_or-set_same, get_or-set_other}
use Rattle.std.proofs.lemmas.Bool.{cases_eq, cases_lt, both_ways, eq-eqb, ne_eqb, eqb-false, lt-ltb, le-ltb, le-leb, cond-false}
use Rattle.std.proofs.lemmas.Bool.Decides.{nat_tests}
use Rattle.model.specs.declared.Direction.TheVariants.{Outgoing}
use Rattle.model.specs.Model.{Model, Entry, Lawful, from, front}
use Rattle.model.specs.Paths.{Leads, Step, In}
use Rattle.model.specs.Sets.{add}
use Rattle.model.proofs.Models.{leads_present}
use Rattle.model.proofs.Rows.{next_of, from_low}
use Rattle.theory.proofs.Sets.{add_same, add_kept, add_cases, left_add}
use Rattle.lowpoint.specs.Lows.{Hops, TreeEdge, Search, enter, Frame, Stage, close, turn, turns, score}
use Rattle.lowpoint.specs.Finds.{hops, hops_of, no_edge, arrived}
use Rattle.lowpoint.specs.Steps.{Memory, entered, met, Look, looked, lowered, credited, popped, closed, noted, went, top, stepped, Held, Framed, opens, Rooted, Shows, Ready, LeadsTo, weight, Stepped, StepLaw}
use Rattle.lowpoint.proofs.Hops.{leads_at, at_present, at_edge}

abbrev frame : ℕ → ℕ → List Step → ℕ → Frame
frame x pe es l = record { node = x; above = pe; rest = es; low = l }

abbrev stage : List Frame → Search → Stage
stage fs σ = record { frames = fs; state = σ }

-- Writes.

set_put : (xs : List ℕ) (y k z : ℕ) → y < length xs → get_or (set xs y k) z 0 ≡ cond (eqb z y) k (get_or xs z 0)
set_put xs y k z h =
    ⊎_elim
    (λ (q : z ≡ y). rw (q, eq-eqb y y refl) (get_or-set_same xs y k 0 h))
    (λ (n : z ≡ y → ⊥). rw (ne_eqb z y n) (get_or-set_other xs y z k 0 n))
    (cases_eq z y)

-- the memory around the open nodes of a list is as it was
record Kept (a a' : Memory) (z : ℕ) : Type 0 where
  lows : get_or a'.lows z 0 ≡ get_or a.lows z 0
  arrivals : get_or a'.arrivals z 0 ≡ get_or a.arrivals z 0
  cursors : get_or a'.cursors z 0 ≡ get_or a.cursors z 0

module _ (m : Model) (a a' : Memory) where
  held_kept : (k : ℕ) (f : Frame) → Held m a k f → get_or a'.stack k 0 ≡ get_or a.stack k 0 → Kept a a' f.node → Held m a' k f
  held_kept k f h s c =
      record {
        node_is = s ∙ h.node_is;
        below = h.below;
        low_is = c.lows ∙ h.low_is;
        above_is = c.arrivals ∙ h.above_is;
        rest_is = h.rest_is ∙ ap (λ p. hops (from (m.row Outgoing f.node) p)) (sym c.cursors);
      }

  framed_kept : (fs : List Frame) → Framed m a fs → ((k : ℕ) → k < length fs → get_or a'.stack k 0 ≡ get_or a.stack k 0) → ((z : ℕ) → In z (opens fs) → Kept a a' z) → Framed m a' fs
  framed_kept [] h s c = tt
  framed_kept (f ∷ fs) h s c = (
    held_kept (length fs) f h.0 (s (length fs) (omega arith)) (c f.node (inl refl)),
    framed_kept fs h.1 (λ k l. s k (omega arith)) (λ z i. c z (inr i)),
  )

rooted_kept : (b : Bool) (gs hs : List TreeEdge) (fs : List Frame) → Rooted b gs fs → ((z : ℕ) → In z (opens fs) → (arrived hs z ≡ arrived gs z) × (score no_edge z hs ≡ score no_edge z gs)) → Rooted b hs fs
rooted_kept b gs hs [] r c = tt
rooted_kept b gs hs (f ∷ []) r c =
    let k = c f.node (inl refl) in
    (r.0, (k.0 ∙ r.1.0, r.1.1 ∙ ap (leb 1) (sym k.1)))
rooted_kept b gs hs (f ∷ h ∷ fs) r c = (r.0, rooted_kept b gs hs (h ∷ fs) r.1 (λ z i. c z (inr i)))

-- A look at a row.

pub from_leads : (xs : List Entry) (c e b : ℕ) → Leads e b (from xs c) → Leads e b xs
from_leads [] c e b i = i
from_leads (x ∷ xs) c e b i = go (leb c x.0) i (from_leads xs c e b)
  where
    go : (t : Bool) → Leads e b (cond t (x ∷ xs) (from xs c)) → (Leads e b (from xs c) → Leads e b xs) → Leads e b (x ∷ xs)
    go true i f = i
    go false i f = inr (f i)

abbrev Stops : List Entry → ℕ → Search → List Entry → Option Entry → Type 0
Stops row pe σ rest None = rest ≡ []
Stops row pe σ rest (Some q) = (rest ≡ q ∷ from row (q.0 + 1)) × ((q.1 ≡ pe → ⊥) × ((σ.seen q.2 ≡ false) × (Leads q.1 q.2 row × (q.0 < 262144))))

record Looked (row : Hops) (xs : List Entry) (x pe : ℕ) (fs : List Frame) (σ : Search) (es : List Entry) (l : ℕ) (r : Look) : Type 0 where
  many : ℕ
  rest : List Entry
  gives : turns row many (stage (frame x pe (hops es) l ∷ fs) σ) ≡ stage (frame x pe (hops rest) r.0 ∷ fs) σ
  stops : Stops xs pe σ rest r.1

module _ (m : Model) (w : Lawful m) (x pe : ℕ) (fs : List Frame) (σ : Search) (numbers : List ℕ) (num : (z : ℕ) → get_or numbers z 0 ≡ σ.num z) (seen : (z : ℕ) → σ.seen z ≡ not (eqb (σ.num z) 0)) where
  abbrev xs : List Entry
  xs = m.row Outgoing x

  looks : (es : List Entry) (c l : ℕ) → es ≡ from xs c → Looked (hops_of m) xs x pe fs σ es l (looked numbers pe l es)
  looks [] c l e = record { many = 0; rest = []; gives = refl; stops = refl }
  looks (q ∷ es) c l e = go (eqb q.1 pe) (eqb (get_or numbers q.2 0) 0) refl refl (λ k. looks es (q.0 + 1) k after)
    where
      n : from xs c ≡ q ∷ from xs (q.0 + 1)
      n = (next_of w Outgoing x c (ap front e)).split

      after : es ≡ from xs (q.0 + 1)
      after = let s = e ∙ n in cc

      here : Leads q.1 q.2 xs
      here = let P : List Entry → Type 0 = Leads q.1 q.2 in from_leads xs c q.1 q.2 (subst P e (inl (refl, refl)))

      go : (b d : Bool) → eqb q.1 pe ≡ b → eqb (get_or numbers q.2 0) 0 ≡ d → ((k : ℕ) → Looked (hops_of m) xs x pe fs σ es k (looked numbers pe k es)) → Looked (hops_of m) xs x pe fs σ (q ∷ es) l (cond b (looked numbers pe l es) (cond d (l, Some q) (looked numbers pe (min l (get_or numbers q.2 0)) es)))
      go true d t u f =
          let r = f l in
          record { many = suc r.many; rest = r.rest; gives = rw t r.gives; stops = r.stops }
      go false true t u f =
          record { many = 0; rest = q ∷ es; gives = refl; stops = (ap (λ zs. q ∷ zs) after, (eqb-false q.1 pe t, (seen q.2 ∙ (let z = num q.2 in let v : eqb (σ.num q.2) 0 ≡ true = rw (← z) u in rw v), (here, (next_of w Outgoing x c (ap front e)).below)))) }
      go false false t u f =
          let r = f (min l (get_or numbers q.2 0)) in
          let z = num q.2 in
          let v : σ.seen q.2 ≡ true = seen q.2 ∙ (let y : eqb (σ.num q.2) 0 ≡ false = rw (← z) u in rw y) in
          let g = r.gives in
          record { many = suc r.many; rest = r.rest; gives = rw (t, v, ← z) g; stops = r.stops }

-- The same by one entry after the other.

-- the entries from a place of a row on lead to numbers below N
pub rest_below : {m : Model} → Lawful m → (x p : ℕ) → All (λ q. q.2 < m.nodes) (from (m.row Outgoing x) p)
rest_below {m = m} w x p = go (from (m.row Outgoing x) p) (λ e b i. w.within b (leads_present m w Outgoing e x b (from_leads (m.row Outgoing x) p e b i)).1)
  where
    go : (es : List Entry) → ((e b : ℕ) → Leads e b es → b < m.nodes) → All (λ q. q.2 < m.nodes) es
    go [] f = All-nil (λ q. q.2 < m.nodes)
    go (q ∷ es) f = All-cons (λ q. q.2 < m.nodes) q es (f q.1 q.2 (inl (refl, refl))) (go es (λ e b i. f e b (inr i)))

module _ (numbers : List ℕ) (pe low : ℕ) (x : Entry) (xs : List Entry) where
  abbrev shown : Bool → Bool → Option ℕ
  shown b d = cond b (Some low) (cond d None (Some (min low (get_or numbers x.2 0))))

  abbrev looking : Bool → Bool → Look
  looking b d = cond b (looked numbers pe low xs) (cond d (low, Some x) (looked numbers pe (min low (get_or numbers x.2 0)) xs))

  pub met_old : (l : ℕ) → Some l ≡ met numbers pe low x.1 x.2 → looked numbers pe low (x ∷ xs) ≡ looked numbers pe l xs
  met_old l e = go (eqb x.1 pe) (eqb (get_or numbers x.2 0) 0) e
    where
      go : (b d : Bool) → Some l ≡ shown b d → looking b d ≡ looked numbers pe l xs
      go true d e = let q : l ≡ low = cc in rw q
      go false true e = let z : ◌≡◌ {A = ℕ} 0 1 = cc in absurd (omega arith)
      go false false e = let q : l ≡ min low (get_or numbers x.2 0) = cc in rw q

-- A new node.

module _ (m : Model) (w : Lawful m) (a : Memory) (fs : List Frame) (σ : Search) (S : Shows m a (stage fs σ)) (y : ℕ) (below : y < m.nodes) (new : σ.seen y ≡ false) where
  pub room : (a.clock ≤ m.nodes) × (a.depth < m.nodes)
  room = let l = left_add (λ _. 1) σ.seen y m.nodes below new in let c = S.counted in let f = S.few in (omega arith, omega arith)

  other : (z : ℕ) → σ.seen z ≡ true → z ≡ y → ⊥
  other z k q = both_ways (σ.seen z) (rw q new) k

  module _ (e : ℕ) (root : Rooted a.branched σ.found (frame y e (hops_of m y) σ.clock ∷ fs)) where
    abbrev a' : Memory
    a' = entered a y e

    pushed_held : Held m a' (length fs) (frame y e (hops_of m y) σ.clock)
    pushed_held =
        let R = S.roomy in
        record {
          node_is = ap (λ k. get_or (set a.stack a.depth y) k 0) (sym S.depth_is) ∙ get_or-set_same a.stack a.depth y 0 (let r = room.1 in let s = R.stack in omega arith);
          below = below;
          low_is = get_or-set_same a.lows y a.clock 0 (let s = R.lows in omega arith) ∙ S.clock_is;
          above_is = get_or-set_same a.arrivals y e 0 (let s = R.arrivals in omega arith);
          rest_is =
              ap hops
              (sym (ap (from (m.row Outgoing y)) (get_or-set_same a.cursors y 0 0 (let s = R.cursors in omega arith)) ∙ from_low 0 0 (m.row Outgoing y) (w.rows Outgoing y).ascends (omega arith)));
        }

    pushed_kept : (z : ℕ) → In z (opens fs) → Kept a a' z
    pushed_kept z i =
        let n = other z (S.opens_seen z i) in
        record { lows = get_or-set_other a.lows y z a.clock 0 n; arrivals = get_or-set_other a.arrivals y z e 0 n; cursors = get_or-set_other a.cursors y z 0 0 n }

    pub push : Shows m a' (stage (frame y e (hops_of m y) σ.clock ∷ fs) (enter σ y))
    push =
        let R = S.roomy in
        let d = S.depth_is in
        let c = S.clock_is in
        record {
          roomy =
              record {
                stack = (let l = length-set a.stack a.depth y in let s = R.stack in omega arith);
                numbers = length-set a.numbers y a.clock ∙ R.numbers;
                lows = length-set a.lows y a.clock ∙ R.lows;
                arrivals = length-set a.arrivals y e ∙ R.arrivals;
                cursors = length-set a.cursors y 0 ∙ R.cursors;
              };
          depth_is = omega arith;
          framed = (
            pushed_held,
            framed_kept m a a' fs S.framed (λ k l. get_or-set_other a.stack a.depth k y 0 (λ q. omega arith)) pushed_kept,
          );
          once = (λ i. both_ways (σ.seen y) new (S.opens_seen y i), S.once);
          opens_seen = λ z. elim [ inl q ↦ rw q (add_same σ.seen y) | inr i ↦ add_kept σ.seen y z (S.opens_seen z i) ];
          rooted = root;
          numbers_are = λ z.
              set_put a.numbers y a.clock z (let s = R.numbers in omega arith) ∙ (let n = S.numbers_are z in rw (n, c));
          seen_is = λ z. let s = S.seen_is z in let f = S.few in grind (arith, nat_tests);
          clock_is = omega arith;
          counted = let l = left_add (λ _. 1) σ.seen y m.nodes below new in let k = S.counted in omega arith;
          few = let f = S.few in omega arith;
          arrivals_are = λ z k n.
              get_or-set_other a.arrivals y z e 0 (λ q. n (inl q)) ∙ S.arrivals_are z (⊎_elim (λ (q : z ≡ y). absurd (n (inl q))) (λ (k : σ.seen z ≡ true). k) (add_cases σ.seen y z k)) (λ i. n (inr i));
          marks_are = S.marks_are;
        }

-- The latest open node, with another low point and place.

module _ (m : Model) (a : Memory) (f : Frame) (fs : List Frame) (σ : Search) (S : Shows m a (stage (f ∷ fs) σ)) (low place : ℕ) where
  f_below : f.node < m.nodes
  f_below = S.framed.0.below

  retop_kept : (z : ℕ) → In z (opens fs) → Kept a (noted a f.node low place) z
  retop_kept z i =
      let n : z ≡ f.node → ⊥ = λ q. S.once.0 (rw (← q) i) in
      record { lows = get_or-set_other a.lows f.node z low 0 n; arrivals = refl; cursors = get_or-set_other a.cursors f.node z place 0 n }

  retop_rooted : (f₁ : Frame) → f₁.node ≡ f.node → f₁.above ≡ f.above → (b : Bool) (gs : List TreeEdge) → Rooted b gs (f ∷ fs) → Rooted b gs (f₁ ∷ fs)
  retop_rooted f₁ p q b gs r = go fs r
    where
      go : (hs : List Frame) → Rooted b gs (f ∷ hs) → Rooted b gs (f₁ ∷ hs)
      go [] r = (q ∙ r.0, (ap (arrived gs) p ∙ r.1.0, r.1.1 ∙ ap (λ z. leb 1 (score no_edge z gs)) (sym p)))
      go (h ∷ hs) r = (λ e. r.0 (sym q ∙ e), r.1)

  pub retop : Shows m (noted a f.node low place) (stage (frame f.node f.above (hops (from (m.row Outgoing f.node) place)) low ∷ fs) σ)
  retop =
      let R = S.roomy in
      let h = S.framed.0 in
      record {
        roomy =
            record {
              stack = R.stack;
              numbers = R.numbers;
              lows = length-set a.lows f.node low ∙ R.lows;
              arrivals = R.arrivals;
              cursors = length-set a.cursors f.node place ∙ R.cursors;
            };
        depth_is = S.depth_is;
        framed = (
          record {
            node_is = h.node_is;
            below = h.below;
            low_is = get_or-set_same a.lows f.node low 0 (let s = R.lows in let b = f_below in omega arith);
            above_is = h.above_is;
            rest_is = ap (λ p. hops (from (m.row Outgoing f.node) p)) (sym (get_or-set_same a.cursors f.node place 0 (let s = R.cursors in let b = f_below in omega arith)));
          },
          framed_kept m a (noted a f.node low place) fs S.framed.1 (λ k l. refl) retop_kept,
        );
        once = S.once;
        opens_seen = S.opens_seen;
        rooted = retop_rooted (frame f.node f.above (hops (from (m.row Outgoing f.node) place)) low) refl refl a.branched σ.found S.rooted;
        numbers_are = S.numbers_are;
        seen_is = S.seen_is;
        clock_is = S.clock_is;
        counted = S.counted;
        few = S.few;
        arrivals_are = S.arrivals_are;
        marks_are = S.marks_are;
      }

-- The root is closed.

keep_if : (c : Bool) (xs : List ℕ) (i v z : ℕ) → (z ≡ i → ⊥) → get_or (cond c xs (set xs i v)) z 0 ≡ get_or xs z 0
keep_if true xs i v z n = refl
keep_if false xs i v z n = get_or-set_other xs i z v 0 n

keep_at : (c : Bool) (xs : List ℕ) (i v : ℕ) → i < length xs → get_or (cond c xs (set xs i v)) i 0 ≡ cond c (get_or xs i 0) v
keep_at true xs i v h = refl
keep_at false xs i v h = get_or-set_same xs i v 0 h

keep_long : (c : Bool) (xs : List ℕ) (i v : ℕ) → length (cond c xs (set xs i v)) ≡ length xs
keep_long true xs i v = refl
keep_long false xs i v = length-set xs i v

same_both : (c : Bool) (x y : ℕ) → x ≡ y → cond c x y ≡ y
same_both true x y q = q
same_both false x y q = refl

module _ (m : Model) (a : Memory) (f : Frame) (σ : Search) (S : Shows m a (stage (f ∷ []) σ)) (low : ℕ) where
  root_arrivals : (z : ℕ) → σ.seen z ≡ true → get_or (popped a f.node low).arrivals z 0 ≡ arrived σ.found z
  root_arrivals z k =
      let c = eqb low (get_or a.numbers f.node 0) in
      ⊎_elim
      (λ (q : z ≡ f.node).
      rw q
      (keep_at c a.arrivals f.node no_edge (let s = S.roomy.arrivals in let b = S.framed.0.below in omega arith)
      ∙ same_both c (get_or a.arrivals f.node 0) no_edge (S.framed.0.above_is ∙ S.rooted.0)
      ∙ sym S.rooted.1.0))
      (λ (n : z ≡ f.node → ⊥). keep_if c a.arrivals f.node no_edge z n ∙ S.arrivals_are z k (⊎_elim n (λ (i : ⊥). i)))
      (cases_eq z f.node)

  pub pop_root : Shows m (popped a f.node low) (stage [] σ)
  pop_root =
      let R = S.roomy in
      let d = S.depth_is in
      record {
        roomy =
            record {
              stack = R.stack;
              numbers = R.numbers;
              lows = R.lows;
              arrivals = keep_long (eqb low (get_or a.numbers f.node 0)) a.arrivals f.node no_edge ∙ R.arrivals;
              cursors = R.cursors;
            };
        depth_is = omega arith;
        framed = tt;
        once = tt;
        opens_seen = λ z i. absurd i;
        rooted = tt;
        numbers_are = S.numbers_are;
        seen_is = S.seen_is;
        clock_is = S.clock_is;
        counted = S.counted;
        few = let k = S.few in omega arith;
        arrivals_are = λ z k n. root_arrivals z k;
        marks_are = S.marks_are;
      }

-- Another node is closed.

lowered_at : (xs : List ℕ) (i v : ℕ) → i < length xs → get_or (lowered xs i v) i 0 ≡ min (get_or xs i 0) v
lowered_at xs i v h =
    ⊎_elim
    (λ (l : v < get_or xs i 0). rw (lt-ltb v (get_or xs i 0) l) (get_or-set_same xs i v 0 h ∙ (omega arith)))
    (λ (l : get_or xs i 0 ≤ v). rw (le-ltb v (get_or xs i 0) l) (omega arith))
    (cases_lt v (get_or xs i 0))

lowered_other : (xs : List ℕ) (i v z : ℕ) → (z ≡ i → ⊥) → get_or (lowered xs i v) z 0 ≡ get_or xs z 0
lowered_other xs i v z n = elim (ltb v (get_or xs i 0)) as (λ c. get_or (cond c (set xs i v) xs) z 0 ≡ get_or xs z 0) [ true ↦ get_or-set_other xs i z v 0 n | false ↦ refl ]

lowered_long : (xs : List ℕ) (i v : ℕ) → length (lowered xs i v) ≡ length xs
lowered_long xs i v = elim (ltb v (get_or xs i 0)) as (λ c. length (cond c (set xs i v) xs) ≡ length xs) [ true ↦ length-set xs i v | false ↦ refl ]

module _ (m : Model) (a : Memory) (f g : Frame) (gs : List Frame) (σ : Search) (S : Shows m a (stage (f ∷ g ∷ gs) σ)) (low : ℕ) where
  abbrev x : ℕ
  x = f.node

  abbrev p : ℕ
  p = g.node

  abbrev edge : TreeEdge
  edge = record { edge = f.above; near = p; far = x; above = g.above; top = σ.num p; num = σ.num x; low = low }

  abbrev c : Bool
  c = eqb low (get_or a.numbers x 0)

  abbrev a'' : Memory
  a'' = credited (popped a x low) p low

  p_other : p ≡ x → ⊥
  p_other q = S.once.0 (inl (sym q))

  below_x : (z : ℕ) → In z (opens gs) → z ≡ x → ⊥
  below_x z i q = let P : ℕ → Type 0 = λ u. In u (opens gs) in S.once.0 (inr (subst P q i))

  below_p : (z : ℕ) → In z (opens gs) → z ≡ p → ⊥
  below_p z i q = let P : ℕ → Type 0 = λ u. In u (opens gs) in S.once.1.0 (subst P q i)

  -- a node that is neither
  other_arrived : (z : ℕ) → (z ≡ x → ⊥) → arrived (edge ∷ σ.found) z ≡ arrived σ.found z
  other_arrived z n = rw (ne_eqb z x n)

  other_score : (z : ℕ) → (z ≡ p → ⊥) → score no_edge z (edge ∷ σ.found) ≡ score no_edge z σ.found
  other_score z n = rw (ne_eqb z p n) (omega arith)

  root_score : g.above ≡ no_edge → score no_edge p (edge ∷ σ.found) ≡ 1 + score no_edge p σ.found
  root_score q = rw (eq-eqb p p refl, eq-eqb g.above no_edge q)

  inner_score : (g.above ≡ no_edge → ⊥) → score no_edge p (edge ∷ σ.found) ≡ cond (leb (σ.num p) low) 2 0 + score no_edge p σ.found
  inner_score n = rw (eq-eqb p p refl, ne_eqb g.above no_edge n)

  pop_kept : (z : ℕ) → In z (opens gs) → Kept a a'' z
  pop_kept z i =
      record { lows = lowered_other a.lows p low z (below_p z i); arrivals = keep_if c a.arrivals x no_edge z (below_x z i); cursors = refl }

  pop_held : Held m a'' (length gs) (frame p g.above g.rest (min g.low low))
  pop_held =
      let h = S.framed.1.0 in
      let b = h.below in
      record {
        node_is = h.node_is;
        below = h.below;
        low_is = lowered_at a.lows p low (let s = S.roomy.lows in omega arith) ∙ ap (λ k. min k low) h.low_is;
        above_is = keep_if c a.arrivals x no_edge p p_other ∙ h.above_is;
        rest_is = h.rest_is;
      }

  pop_rooted : (hs : List Frame) → a.depth ≡ suc (suc (length hs)) → ((z : ℕ) → In z (opens hs) → (z ≡ x → ⊥) × (z ≡ p → ⊥)) → Rooted a.branched σ.found (f ∷ g ∷ hs) → Rooted a''.branched (edge ∷ σ.found) (frame p g.above g.rest (min g.low low) ∷ hs)
  pop_rooted [] d o r =
      let k : a.depth - 1 ≡ 1 = omega arith in
      let s = root_score r.1.0 in
      (r.1.0, (other_arrived p p_other ∙ r.1.1.0, rw (eq-eqb (a.depth - 1) 1 k, s) (sym (le-leb 1 (1 + score no_edge p σ.found) (omega arith)))))
  pop_rooted (h ∷ hs) d o r =
      let k : eqb (a.depth - 1) 1 ≡ false = ne_eqb (a.depth - 1) 1 (λ q. omega arith) in
      let P : Bool → Type 0 = λ b. Rooted b (edge ∷ σ.found) (h ∷ hs) in (
        r.1.0,
        subst P (sym (cond-false (eqb (a.depth - 1) 1) true a.branched k)) (rooted_kept a.branched σ.found (edge ∷ σ.found) (h ∷ hs) r.1.1 (λ z i. (other_arrived z (o z i).0, other_score z (o z i).1))),
      )

  pop_arrivals : (z : ℕ) → σ.seen z ≡ true → (In z (p ∷ opens gs) → ⊥) → get_or a''.arrivals z 0 ≡ arrived (edge ∷ σ.found) z
  pop_arrivals z k n =
      ⊎_elim
      (λ (q : z ≡ x).
      rw q
      (keep_at c a.arrivals x no_edge (let s = S.roomy.arrivals in let b = S.framed.0.below in omega arith)
      ∙ (let u = S.framed.0.above_is in let v = S.numbers_are x in rw (u, v, eq-eqb x x refl))))
      (λ (o : z ≡ x → ⊥). keep_if c a.arrivals x no_edge z o ∙ S.arrivals_are z k (⊎_elim o n) ∙ sym (other_arrived z o))
      (cases_eq z x)

  -- the marks of p, for a root and for another node
  mark_root : (b : Bool) (s : ℕ) → b ≡ leb 1 s → a.marks p ≡ leb 2 s → cond b (add a.marks p) a.marks p ≡ leb 2 (1 + s)
  mark_root true s h k = let l = add_same a.marks p in grind (arith, nat_tests)
  mark_root false s h k = grind (arith, nat_tests)

  mark_inner : (b : Bool) (s : ℕ) → a.marks p ≡ leb 2 s → cond b (add a.marks p) a.marks p ≡ leb 2 (cond b 2 0 + s)
  mark_inner true s k = add_same a.marks p ∙ sym (le-leb 2 (2 + s) (omega arith))
  mark_inner false s k = k ∙ ap (leb 2) (omega arith)

  mark_other : (b : Bool) (z : ℕ) → (z ≡ p → ⊥) → cond b (add a.marks p) a.marks z ≡ a.marks z
  mark_other true z n = rw (ne_eqb z p n)
  mark_other false z n = refl

  pop_marks : (hs : List Frame) → a.depth ≡ suc (suc (length hs)) → Rooted a.branched σ.found (f ∷ g ∷ hs) → (z : ℕ) → a''.marks z ≡ leb 2 (score no_edge z (edge ∷ σ.found))
  pop_marks [] d r z =
      let k : a.depth - 1 ≡ 1 = omega arith in
      let P : ℕ → Type 0 = λ u. cond a.branched (add a.marks p) a.marks u ≡ leb 2 (score no_edge u (edge ∷ σ.found)) in
      rw (eq-eqb (a.depth - 1) 1 k)
      (⊎_elim
      (λ (q : z ≡ p). subst P (sym q) (mark_root a.branched (score no_edge p σ.found) r.1.1.1 (S.marks_are p) ∙ ap (leb 2) (sym (root_score r.1.0))))
      (λ (n : z ≡ p → ⊥). mark_other a.branched z n ∙ S.marks_are z ∙ ap (leb 2) (sym (other_score z n)))
      (cases_eq z p))
  pop_marks (h ∷ hs) d r z =
      let k : eqb (a.depth - 1) 1 ≡ false = ne_eqb (a.depth - 1) 1 (λ q. omega arith) in
      let t : leb (get_or a.numbers p 0) low ≡ leb (σ.num p) low = ap (λ n. leb n low) (S.numbers_are p) in
      let P : ℕ → Type 0 = λ u. cond (leb (σ.num p) low) (add a.marks p) a.marks u ≡ leb 2 (score no_edge u (edge ∷ σ.found)) in
      rw (k, t)
      (⊎_elim
      (λ (q : z ≡ p). subst P (sym q) (mark_inner (leb (σ.num p) low) (score no_edge p σ.found) (S.marks_are p) ∙ ap (leb 2) (sym (inner_score r.1.0))))
      (λ (n : z ≡ p → ⊥). mark_other (leb (σ.num p) low) z n ∙ S.marks_are z ∙ ap (leb 2) (sym (other_score z n)))
      (cases_eq z p))

  pub pop_child : Shows m a'' (close (frame x f.above [] low) (g ∷ gs) σ)
  pop_child =
      let R = S.roomy in
      let d = S.depth_is in
      record {
        roomy =
            record {
              stack = R.stack;
              numbers = R.numbers;
              lows = lowered_long a.lows p low ∙ R.lows;
              arrivals = keep_long c a.arrivals x no_edge ∙ R.arrivals;
              cursors = R.cursors;
            };
        depth_is = omega arith;
        framed = (pop_held, framed_kept m a a'' gs S.framed.1.1 (λ k l. refl) pop_kept);
        once = S.once.1;
        opens_seen = λ z i. S.opens_seen z (inr i);
        rooted = pop_rooted gs S.depth_is (λ z i. (below_x z i, below_p z i)) S.rooted;
        numbers_are = S.numbers_are;
        seen_is = S.seen_is;
        clock_is = S.clock_is;
        counted = S.counted;
        few = let k = S.few in omega arith;
        arrivals_are = pop_arrivals;
        marks_are = pop_marks gs S.depth_is S.rooted;
      }

-- One step.

turns_more : (row : Hops) (k : ℕ) (b : Stage) → turns row (suc k) b ≡ turn row (turns row k b).frames (turns row k b).state
turns_more row zero b = refl
turns_more row (suc k) b = turns_more row k (turn row b.frames b.state)

turns_then : (row : Hops) (k : ℕ) (b c : Stage) → turns row k b ≡ c → turns row (suc k) b ≡ turn row c.frames c.state
turns_then row k b c e = turns_more row k b ∙ ap (λ d. turn row d.frames d.state) e

module _ (m : Model) (w : Lawful m) (a : Memory) (x pe l : ℕ) (fs : List Frame) (σ : Search) where
  abbrev rest_of : List Step
  rest_of = hops (from (m.row Outgoing x) (get_or a.cursors x 0))

  module _ (S : Shows m a (stage (frame x pe rest_of l ∷ fs) σ)) where
    gone_back : (low many : ℕ) → turns (hops_of m) many (stage (frame x pe rest_of l ∷ fs) σ) ≡ stage (frame x pe [] low ∷ fs) σ → Stepped m a (closed a x low) (stage (frame x pe rest_of l ∷ fs) σ)
    gone_back low many e = go fs S (turns_then (hops_of m) many _ _ e)
      where
        go : (hs : List Frame) → Shows m a (stage (frame x pe rest_of l ∷ hs) σ) → turns (hops_of m) (suc many) (stage (frame x pe rest_of l ∷ fs) σ) ≡ close (frame x pe [] low) hs σ → Stepped m a (closed a x low) (stage (frame x pe rest_of l ∷ fs) σ)
        go [] T q =
            let d = T.depth_is in
            let c : eqb a.depth 1 ≡ true = eq-eqb a.depth 1 d in
            let P : Bool → Type 0 = λ t. Stepped m a (cond t (popped a x low) (credited (popped a x low) (get_or a.stack (a.depth - 2) 0) low)) (stage (frame x pe rest_of l ∷ fs) σ) in
            subst P (sym c) (record { many = suc many; shows = rw q (pop_root m a (frame x pe rest_of l) σ T low); falls = omega arith })
        go (g ∷ gs) T q =
            let d = T.depth_is in
            let c : eqb a.depth 1 ≡ false = ne_eqb a.depth 1 (λ z. omega arith) in
            let k : a.depth - 2 ≡ length gs = omega arith in
            let p : get_or a.stack (a.depth - 2) 0 ≡ g.node = ap (λ z. get_or a.stack z 0) k ∙ T.framed.1.0.node_is in
            let P : Bool → Type 0 = λ t. Stepped m a (cond t (popped a x low) (credited (popped a x low) (get_or a.stack (a.depth - 2) 0) low)) (stage (frame x pe rest_of l ∷ fs) σ) in
            let Q : ℕ → Type 0 = λ z. Stepped m a (credited (popped a x low) z low) (stage (frame x pe rest_of l ∷ fs) σ) in
            subst P (sym c) (subst Q (sym p) (record { many = suc many; shows = rw q (pop_child m a (frame x pe rest_of l) g gs σ T low); falls = omega arith }))

    gone_on : (low many : ℕ) (q : Entry) → turns (hops_of m) many (stage (frame x pe rest_of l ∷ fs) σ) ≡ stage (frame x pe (hops (q ∷ from (m.row Outgoing x) (q.0 + 1))) low ∷ fs) σ → (q.1 ≡ pe → ⊥) → σ.seen q.2 ≡ false → Leads q.1 q.2 (m.row Outgoing x) → Stepped m a (entered (noted a x low (q.0 + 1)) q.2 q.1) (stage (frame x pe rest_of l ∷ fs) σ)
    gone_on low many q e n new i =
        let j = leads_at (m.row Outgoing x) q.1 q.2 i in
        let below = w.within q.2 (at_present m w q.1 x q.2 j).1 in
        let T = retop m a (frame x pe rest_of l) fs σ S low (q.0 + 1) in
        let r = (room m w a (frame x pe rest_of l ∷ fs) σ S q.2 below new).0 in
        let known : q.1 ≡ no_edge → ⊥ = (λ z. let k = at_edge m w q.1 x q.2 j in let f = w.few_edges in omega arith) in
        let U = push m w (noted a x low (q.0 + 1)) (frame x pe (hops (from (m.row Outgoing x) (q.0 + 1))) low ∷ fs) σ T q.2 below new q.1 (known, T.rooted) in
        let t : turns (hops_of m) (suc many) (stage (frame x pe rest_of l ∷ fs) σ) ≡ stage (frame q.2 q.1 (hops_of m q.2) σ.clock ∷ frame x pe (hops (from (m.row Outgoing x) (q.0 + 1))) low ∷ fs) (enter σ q.2) = (
        turns_then (hops_of m) many _ _ e ∙ rw (ne_eqb q.1 pe n, new)
        ) in
        record { many = suc many; shows = rw t U; falls = omega arith }

    stepped_at : (r : Look) → Looked (hops_of m) (m.row Outgoing x) x pe fs σ (from (m.row Outgoing x) (get_or a.cursors x 0)) l r → Stepped m a (went a x r) (stage (frame x pe rest_of l ∷ fs) σ)
    stepped_at (low, None) L = gone_back low L.many (L.gives ∙ ap (λ es. stage (frame x pe (hops es) low ∷ fs) σ) L.stops)
    stepped_at (low, Some q) L =
        let s = L.stops in
        gone_on low L.many q (L.gives ∙ ap (λ es. stage (frame x pe (hops es) low ∷ fs) σ) s.0) s.1.0 s.1.1.0 s.1.1.1.0

module _ (m : Model) (w : Lawful m) (a : Memory) where
  top_is : (f : Frame) (fs : List Frame) (σ : Search) → Shows m a (stage (f ∷ fs) σ) → top a ≡ f.node
  top_is f fs σ S =
      let d = S.depth_is in
      let k : a.depth - 1 ≡ length fs = omega arith in
      ap (λ z. get_or a.stack z 0) k ∙ S.framed.0.node_is

  abbrev look_at : ℕ → ℕ → ℕ → Look
  look_at x pe l = looked a.numbers pe l (from (m.row Outgoing x) (get_or a.cursors x 0))

  stepped_frame : (f : Frame) (fs : List Frame) (σ : Search) → Shows m a (stage (f ∷ fs) σ) → Stepped m a (stepped m a) (stage (f ∷ fs) σ)
  stepped_frame f fs σ S =
      let h = S.framed.0 in
      let x = f.node in
      let es = from (m.row Outgoing x) (get_or a.cursors x 0) in
      let P : List Step → Type 0 = λ r. Shows m a (stage (frame x f.above r f.low ∷ fs) σ) in
      let T : Shows m a (stage (frame x f.above (hops es) f.low ∷ fs) σ) = subst P h.rest_is S in
      let L = looks m w x f.above fs σ a.numbers S.numbers_are S.seen_is es (get_or a.cursors x 0) f.low refl in
      let U : Stepped m a (went a x (look_at x f.above f.low)) (stage (frame x f.above (hops es) f.low ∷ fs) σ) = stepped_at m w a x f.above f.low fs σ T _ L in
      let Q : List Step → Type 0 = λ r. Stepped m a (went a x (look_at x f.above f.low)) (stage (frame x f.above r f.low ∷ fs) σ) in
      let V : Stepped m a (went a x (look_at x f.above f.low)) (stage (f ∷ fs) σ) = subst Q (sym h.rest_is) U in
      let A : ℕ → Type 0 = λ pe. Stepped m a (went a x (look_at x pe f.low)) (stage (f ∷ fs) σ) in
      let B : ℕ → Type 0 = λ l. Stepped m a (went a x (look_at x (get_or a.arrivals x 0) l)) (stage (f ∷ fs) σ) in
      let C : ℕ → Type 0 = λ z. Stepped m a (went a z (look_at z (get_or a.arrivals z 0) (get_or a.lows z 0))) (stage (f ∷ fs) σ) in
      subst C (sym (top_is f fs σ S)) (subst B (sym h.low_is) (subst A (sym h.above_is) V))

  pub step_shows : (b : Stage) → Shows m a b → 0 < a.depth → Stepped m a (stepped m a) b
  step_shows b S h = go b.frames S
    where
      go : (fs : List Frame) → Shows m a (stage fs b.state) → Stepped m a (stepped m a) (stage fs b.state)
      go [] T = absurd (let d = T.depth_is in omega arith)
      go (f ∷ fs) T = stepped_frame f fs b.state T

pub step_law : StepLaw
step_law m w a b S h = step_shows m w a b S h

-- What the code of a step asks for.

module _ {m : Model} (w : Lawful m) {a : Memory} {b : Stage} (S : Shows m a b) where
  pub depth_most : a.depth ≤ m.nodes
  depth_most = let c = S.counted in let f = S.few in omega arith

  pub clock_most : a.clock ≤ m.nodes + 1
  clock_most = let c = S.counted in omega arith

  pub top_below : 0 < a.depth → top a < m.nodes
  top_below h = go b.frames S
    where
      go : (fs : List Frame) → Shows m a (stage fs b.state) → top a < m.nodes
      go [] T = absurd (let d = T.depth_is in omega arith)
      go (f ∷ fs) T = rw (top_is m w a f fs b.state T) T.framed.0.below

  pub under_below : 1 < a.depth → get_or a.stack (a.depth - 2) 0 < m.nodes
  under_below h = go b.frames S
    where
      go : (fs : List Frame) → Shows m a (stage fs b.state) → get_or a.stack (a.depth - 2) 0 < m.nodes
      go [] T = absurd (let d = T.depth_is in omega arith)
      go (f ∷ []) T = absurd (let d = T.depth_is in omega arith)
      go (f ∷ g ∷ gs) T =
          let d = T.depth_is in
          let k : a.depth - 2 ≡ length gs = omega arith in
          let h = T.framed.1.0 in
          let e = h.node_is in
          rw (k, e) h.below

  pub record New (q : Entry) : Type 0 where
    pub place : q.0 < 262144
    pub below : q.2 < m.nodes
    pub clock : a.clock ≤ m.nodes
    pub depth : a.depth < m.nodes

  new_look : (x pe l : ℕ) (r : Look) (q : Entry) → Looked (hops_of m) (m.row Outgoing x) x pe [] b.state (from (m.row Outgoing x) (get_or a.cursors x 0)) l r → r.1 ≡ Some q → New q
  new_look x pe l r q L e =
      let P : Option Entry → Type 0 = λ o. Stops (m.row Outgoing x) pe b.state L.rest o in
      let s = subst P e L.stops in
      let j = leads_at (m.row Outgoing x) q.1 q.2 s.1.1.1.0 in
      let below = w.within q.2 (at_present m w q.1 x q.2 j).1 in
      let r = room m w a b.frames b.state S q.2 below s.1.1.0 in
      record { place = s.1.1.1.1; below = below; clock = r.0; depth = r.1 }

  pub new_bounds : (x pe l : ℕ) (r : Look) (q : Entry) → r ≡ looked a.numbers pe l (from (m.row Outgoing x) (get_or a.cursors x 0)) → r.1 ≡ Some q → New q
  new_bounds x pe l r q e o =
      new_look x pe l _ q (looks m w x pe [] b.state a.numbers S.numbers_are S.seen_is (from (m.row Outgoing x) (get_or a.cursors x 0)) (get_or a.cursors x 0) l refl) (ap (λ r. r.1) (sym e) ∙ o)

-- The loop.

pub turns_add : (row : Hops) (i j : ℕ) (b : Stage) → turns row (i + j) b ≡ turns row j (turns row i b)
turns_add row zero j b = let e : 0 + j ≡ j = omega arith in rw e
turns_add row (suc i) j b = let e : suc i + j ≡ suc (i + j) = omega arith in rw e (turns_add row i j (turn row b.frames b.state))

module _ {m : Model} (w : Lawful m) {a₁ a₂ : Memory} (h : 0 < a₁.depth) (e : a₂ ≡ stepped m a₁) where
  pub leads_more : {a : Memory} → LeadsTo m a a₁ → LeadsTo m a a₂
  leads_more l b S =
      let r = l b S in
      let t = step_shows m w a₁ (turns (hops_of m) r.0 b) r.1 h in
      let P : Memory → Type 0 = λ z. Shows m z (turns (hops_of m) (r.0 + t.many) b) in
      (r.0 + t.many, subst P (sym e) (rw (turns_add (hops_of m) r.0 t.many b) t.shows))

  pub ready_more : Ready m a₁ → Ready m a₂
  ready_more r =
      let t = step_shows m w a₁ r.stage r.shown h in
      let P : Memory → Type 0 = Ready m in
      subst P (sym e) (record { stage = turns (hops_of m) t.many r.stage; shown = t.shows })

  pub step_falls : Ready m a₁ → weight m a₂ < weight m a₁
  step_falls r = let t = step_shows m w a₁ r.stage r.shown h in let P : Memory → Type 0 = λ z. weight m z < weight m a₁ in subst P (sym e) t.falls
