-- What a chain over a range answers: the first index at fault, and how many there are. Assumes nothing.
use Rattle.std.proofs.Common.{◌≡◌, ℕ, zero, suc, ◌+◌, ◌-◌, ◌<◌, ◌≤◌, Bool, true, false, cond, ◌&&◌, ◌==◌, nat_lt, List, Some, None, Option, MatchOption, refl, sym, ap, subst, ◌∙◌, ⊎_elim, arith, Bor}
use Rattle.std.proofs.lemmas.Bool.{cases_eq, cases_Bool, eq-eqb, ne_eqb}
use Rattle.std.proofs.lemmas.Iterator.{first_from_Range}
use Rattle.std.proofs.iter.Yields.{nat_range_steps}
use Rattle.std.proofs.iter.runs.Sources.{range_runs}
use Rattle.std.specs.Bool.{⊤}
use Rattle.std.specs.Fn.{Called, CalledAt}
use Rattle.std.specs.Iterator.{YieldsThen}
use Rattle.std.specs.Iterator.Runs.{Run, SomeRun, AllItemsGive, IsFirstToGive}
use Rattle.std.specs.List.{FoldsTo, range_with_len, fold, sum_by}
use Rattle.std.specs.Int.{from_bool}
use Rattle.std.specs.Option.{option_map, is_some, IsSomeAnd, IfSome}
use Rattle.std.specs.declared.ops.Range.{Range}
use denote.Param.Members.{Mut}
use Rattle.model.specs.declared.Direction.{Direction}
use Rattle.model.specs.Model.{bit}
use Rattle.format.specs.Format.{Tables, is_due, tail_of, head_of, loops}
use Rattle.format.specs.Faults.{first, first_in, or_in, entry_ok}

module _ (ok : ℕ → Bool) where
  none : (n i : ℕ) → ((k : ℕ) → i ≤ k → k < i + n → ok k ≡ true) → first ok i n ≡ None
  none zero i h = refl
  none (suc n) i h = rw (h i (omega arith) (omega arith)) (none n (i + 1) (λ k a b. h k (omega arith) (omega arith)))

  some : (n i j : ℕ) → i ≤ j → j < i + n → ok j ≡ false → ((k : ℕ) → i ≤ k → k < j → ok k ≡ true) → first ok i n ≡ Some j
  some zero i j a b f h = absurd (omega arith)
  some (suc n) i j a b f h =
      ⊎_elim
      (λ (q : j ≡ i). let e : ok i ≡ false = ap ok (sym q) ∙ f in rw e (ap Some (sym q)))
      (λ (d : j ≡ i → ⊥). rw (h i (omega arith) (omega arith)) (some n (i + 1) j (omega arith) (omega arith) f (λ k u v. h k (omega arith) (omega arith))))
      (cases_eq j i)

  of_range : (lo hi : ℕ) (r : Option ℕ) → MatchOption r ((k : ℕ) → lo ≤ k → k < hi → ok k ≡ true) (λ i. (lo ≤ i) × (i < hi) × (ok i ≡ false) × ((k : ℕ) → lo ≤ k → k < i → ok k ≡ true)) → r ≡ first ok lo (hi - lo)
  of_range lo hi None h = sym (none (hi - lo) lo (λ k a b. h k a (omega arith)))
  of_range lo hi (Some i) h = sym (some (hi - lo) lo i h.0 (omega arith) h.2 h.3)

  -- where the closure tells whether an index is at fault
  pub first_of_find : {F : Type 0} {g : Mut F (Bor ℕ × Unit {0}) Bool} (s u : Range ℕ) (f : F) (r : Option ℕ) (n : ℕ) → s.end - s.start ≡ n → (xs : List ℕ) × (j : F) × YieldsThen nat_range_steps s xs r u × FoldsTo (λ p x q. CalledAt g p x false q) f xs j × MatchOption r ⊤ (λ x. (h : F) × CalledAt g j x true h) → ((x : ℕ) (q : F) → CalledAt g f x true q → ok x ≡ false) → ((x : ℕ) (q : F) → CalledAt g f x false q → (q ≡ f) × (ok x ≡ true)) → r ≡ first ok s.start n
  first_of_find s u f r n e ran hit miss = of_range s.start s.end r (first_from_Range s u f r (λ x. ok x ≡ false) (λ x. ok x ≡ true) ran hit miss) ∙ ap (first ok s.start) e

module _ (ok : ℕ → Bool) where
  -- where the first was asked before the others
  pub after_first : (n i : ℕ) → i < n → ok i ≡ true → first ok (i + 1) (n - (i + 1)) ≡ first ok i (n - i)
  after_first n i l y = let e : n - i ≡ suc (n - (i + 1)) = omega arith in rw (e, y)

  pub bad_first : (n i : ℕ) → i < n → ok i ≡ false → Some i ≡ first ok i (n - i)
  bad_first n i l y = let e : n - i ≡ suc (n - (i + 1)) = omega arith in rw (e, y)

  one_more : (n i : ℕ) → first ok i (suc n) ≡ or_in (first ok i n) (cond (ok (i + n)) None (Some (i + n)))
  one_more zero i = let e : i + 0 ≡ i = omega arith in rw e
  one_more (suc n) i =
      let e : i + suc n ≡ i + 1 + n = omega arith in
      let r = one_more n (i + 1) in
      ⊎_elim
      (λ (y : ok i ≡ true). rw (y, e) r)
      (λ (y : ok i ≡ false). rw y)
      (cases_Bool (ok i))

  -- where all before the last were asked first
  pub last_bad : (n : ℕ) (r : Option ℕ) → r ≡ first ok 0 n → is_some r ≡ false → ok n ≡ false → Some n ≡ first ok 0 (n + 1)
  last_bad n None e h f =
      let q : n + 1 ≡ suc n = omega arith in
      let z : 0 + n ≡ n = omega arith in
      rw (q, one_more n 0, ← e, z, f)
  last_bad n (Some i) e h f = let z : ◌≡◌ {A = ℕ} 0 1 = cc in absurd (omega arith)

  pub last_good : (n : ℕ) (r : Option ℕ) → r ≡ first ok 0 n → (is_some r ≡ false → ok n ≡ true) → r ≡ first ok 0 (n + 1)
  last_good n None e h =
      let q : n + 1 ≡ suc n = omega arith in
      let z : 0 + n ≡ n = omega arith in
      rw (q, one_more n 0, ← e, z, h refl)
  last_good n (Some i) e h =
      let q : n + 1 ≡ suc n = omega arith in
      rw (q, one_more n 0, ← e)

-- two tests that agree from i on
pub first_alike : (ok also : ℕ → Bool) (n i : ℕ) → ((k : ℕ) → i ≤ k → ok k ≡ also k) → first ok i n ≡ first also i n
first_alike ok also zero i h = refl
first_alike ok also (suc n) i h = rw (h i (omega arith), first_alike ok also n (i + 1) (λ k l. h k (omega arith)))

-- the first entry of a row, and one after it
and_true : (b : Bool) → b ≡ (b && true)
and_true true = refl
and_true false = refl

pub entry_first : (t : Tables) (d : Direction) (a low : ℕ) → (nat_lt (t.entry d low) t.edges && is_due t d a (t.entry d low)) ≡ entry_ok (t.entry d) t.edges (is_due t d a) low low
entry_first t d a low = rw (eq-eqb low low refl) (and_true (nat_lt (t.entry d low) t.edges && is_due t d a (t.entry d low)))

-- what an entry has to be that is not the first of the row of a
abbrev pub rises_due : Tables → Direction → ℕ → ℕ → Bool
rises_due t d a i = nat_lt (t.entry d i) t.edges && is_due t d a (t.entry d i) && nat_lt (t.entry d (i - 1)) (t.entry d i)

pub entry_after : (t : Tables) (d : Direction) (a low k : ℕ) → low < k → rises_due t d a k ≡ entry_ok (t.entry d) t.edges (is_due t d a) low k
entry_after t d a low k l = rw (ne_eqb k low (λ e. omega arith))

-- the self-loops among n edges from e on, as a sum over a list
loops_fold : (t : Tables) (n e a : ℕ) → fold (λ a e. a + from_bool (tail_of t e == head_of t e)) a (range_with_len e n) ≡ a + loops t e n
loops_fold t zero e a = omega arith
loops_fold t (suc n) e a =
    let r = loops_fold t n (e + 1) (a + from_bool (tail_of t e == head_of t e)) in
    let b : from_bool (tail_of t e == head_of t e) ≡ bit (tail_of t e == head_of t e) = elim (tail_of t e == head_of t e) as (λ b. from_bool b ≡ bit b) [ true ↦ refl | false ↦ refl ] in
    omega (arith, r, b)

pub loops_listed : (t : Tables) (n e : ℕ) → sum_by (λ e. from_bool (tail_of t e == head_of t e)) (range_with_len e n) ≡ loops t e n
loops_listed t n e = omega (arith, loops_fold t n e 0)

item : (o : Option ℕ) (n : ℕ) (P : ℕ → Type 0) → option_map (λ y. y) o ≡ Some n → IfSome o P → P n
item None n P e h = let z : ◌≡◌ {A = ℕ} 0 1 = cc in absurd (omega arith)
item (Some x) n P e h = let z : x ≡ n = cc in subst P z h

item_and : (o : Option ℕ) (n : ℕ) (P : ℕ → Type 0) → option_map (λ y. y) o ≡ Some n → IsSomeAnd o P → P n
item_and None n P e h = let z : ◌≡◌ {A = ℕ} 0 1 = cc in absurd (omega arith)
item_and (Some x) n P e h = let z : x ≡ n = cc in subst P z h

-- what `find_map` over the numbers below n answers, where the closure answers h of each
pub record FirstAnswer (h : ℕ → Option ℕ) (n j : ℕ) : Type 0 where
  pub at : ℕ
  pub inside : at < n
  pub here : h at ≡ Some j
  pub before : (k : ℕ) → k < at → h k ≡ None

module _ {F : Type 0} {g : Mut F (ℕ × Unit {0}) (Option ℕ)} (h : ℕ → Option ℕ) (f : F) (n : ℕ) (s : Range ℕ) (e : s ≡ record { start = 0; end = n }) (calls : (x : ℕ) (b : Option ℕ) (q : F) → Called g f (x, tt) b q → (q ≡ f) × (b ≡ h x)) where
  keeps : (x : ℕ × Unit {0}) (b : Option ℕ) (q : F) → Called g f x b q → q ≡ f
  keeps x b q k = (calls x.0 b q k).0

  place : (p : Run nat_range_steps) → p.from ≡ s → (k : ℕ) → k < p.len → option_map (λ y. y) (p.at k) ≡ Some k
  place p w k l = let z : p.from.start + k ≡ k = omega (arith, ap (λ (v : Range ℕ). v.start) (w ∙ e)) in (range_runs p p.seen).3 k l ∙ ap Some z

  answers : (r : Option ℕ) (p : Run nat_range_steps) → p.from ≡ s → MatchOption r ((p.whole ≡ true) × AllItemsGive p g f None) (λ y. (i : ℕ) × (i < p.len) × (p.len ≡ i + 1) × IsFirstToGive p g f (Some y) None i) → MatchOption r ((k : ℕ) → k < n → h k ≡ None) (FirstAnswer h n)
  answers None p w m = λ k l.
      let u = place p w k (omega (arith, (range_runs p p.seen).1 m.0, ap (λ (v : Range ℕ). v.start) (w ∙ e), ap (λ (v : Range ℕ). v.end) (w ∙ e))) in
      sym (calls k None f (item (p.at k) k (λ x. Called g f (x, tt) None f) u (m.1 keeps k))).1
  answers (Some y) p w m =
      let first_of = m.3 keeps in
      record {
        at = m.0;
        inside = omega (arith, m.1, (range_runs p p.seen).0, ap (λ (v : Range ℕ). v.start) (w ∙ e), ap (λ (v : Range ℕ). v.end) (w ∙ e));
        here = sym (calls m.0 (Some y) f (item_and (p.at m.0) m.0 (λ x. Called g f (x, tt) (Some y) f) (place p w m.0 m.1) first_of.0)).1;
        before = λ k l. sym (calls k None f (item_and (p.at k) k (λ x. Called g f (x, tt) None f) (place p w k (omega (arith, m.1))) (first_of.1 k l))).1;
      }

module _ (ok : ℕ → ℕ → Bool) (s : ℕ → ℕ) where
  none_in : (n a : ℕ) → ((k : ℕ) → a ≤ k → k < a + n → first (ok k) (s k) (s (k + 1) - s k) ≡ None) → first_in ok s a n ≡ None
  none_in zero a h = refl
  none_in (suc n) a h = rw (h a (omega arith) (omega arith)) (none_in n (a + 1) (λ k u v. h k (omega arith) (omega arith)))

  some_in : (n a i j : ℕ) → a ≤ i → i < a + n → first (ok i) (s i) (s (i + 1) - s i) ≡ Some j → ((k : ℕ) → a ≤ k → k < i → first (ok k) (s k) (s (k + 1) - s k) ≡ None) → first_in ok s a n ≡ Some j
  some_in zero a i j u v f h = absurd (omega arith)
  some_in (suc n) a i j u v f h =
      ⊎_elim
      (λ (q : i ≡ a). let r : first (ok a) (s a) (s (a + 1) - s a) ≡ Some j = subst (λ (x : ℕ). first (ok x) (s x) (s (x + 1) - s x) ≡ Some j) q f in rw r)
      (λ (d : i ≡ a → ⊥). rw (h a (omega arith) (omega arith)) (some_in n (a + 1) i j (omega arith) (omega arith) f (λ k u v. h k (omega arith) (omega arith))))
      (cases_eq i a)

  in_rows : (n : ℕ) (r : Option ℕ) → MatchOption r ((k : ℕ) → k < n → first (ok k) (s k) (s (k + 1) - s k) ≡ None) (FirstAnswer (λ a. first (ok a) (s a) (s (a + 1) - s a)) n) → r ≡ first_in ok s 0 n
  in_rows n None h = sym (none_in n 0 (λ k u v. h k (omega arith)))
  in_rows n (Some j) h = sym (some_in n 0 h.at j (omega arith) (omega (arith, h.inside)) h.here (λ k u v. h.before k v))

  -- where the closure answers with the first index at fault of a row
  pub first_in_of_find_map : {F : Type 0} {g : Mut F (ℕ × Unit {0}) (Option ℕ)} (f : F) (n : ℕ) (s0 : Range ℕ) (r : Option ℕ) → s0 ≡ record { start = 0; end = n } → SomeRun nat_range_steps s0 (λ p. MatchOption r ((p.whole ≡ true) × AllItemsGive p g f None) (λ y. (i : ℕ) × (i < p.len) × (p.len ≡ i + 1) × IsFirstToGive p g f (Some y) None i)) → ((x : ℕ) (b : Option ℕ) (q : F) → Called g f (x, tt) b q → (q ≡ f) × (b ≡ first (ok x) (s x) (s (x + 1) - s x))) → r ≡ first_in ok s 0 n
  first_in_of_find_map f n s0 r e runs calls = in_rows n r (answers (λ a. first (ok a) (s a) (s (a + 1) - s a)) f n s0 e calls r runs.0 runs.1 runs.2)
