-- Each view of a lawful graph is a lawful graph. Assumes nothing.
use Rattle.std.proofs.Common.{◌≡◌, ℕ, Bool, true, false, cond, ◌&&◌, List, [], ◌∷◌, Some, None, sym, refl, ap, ◌∙◌, subst, ⊎_elim, arith}
use Rattle.std.proofs.lemmas.Bool.Decides.{nat_tests}
use Rattle.std.proofs.lemmas.Bool.{cases_Bool, and_parts, and_from}
use Rattle.model.specs.declared.Direction.{Direction}
use Rattle.model.specs.declared.Direction.TheVariants.{Outgoing, Incoming}
use Rattle.model.specs.declared.Kind.{Kind}
use Rattle.model.specs.declared.Kind.TheVariants.{OneWay, TwoWay}
use Rattle.model.specs.Model.{Entry, Ends, Model, Lawful, Row, Ascends, Far, Fars, due, bit, other, count_of}
use Rattle.model.specs.Paths.{Leads}
use Rattle.model.specs.Sets.{Set}
use Rattle.model.specs.Views.{opposite, turned, reversed, keep, both, keep_nodes, keep_edges, ViewsLawful}
use Rattle.model.proofs.Entries.{leads_far}
use Rattle.model.proofs.Keeps.{keep_ascends, keep_count, keep_none}

-- Reversed.

turned_back : (o : Ends) (t h : ℕ) → turned o ≡ Some (t, h) → o ≡ Some (h, t)
turned_back None t h e = let z : ◌≡◌ {A = ℕ} 0 1 = cc in absurd (omega arith)
turned_back (Some (u, v)) t h e = let p : Some (v, u) ≡ Some (t, h) = e in ap turned p

due_turned : (k : Kind) (d : Direction) (o : Ends) (a : ℕ) → due k (opposite d) o a ≡ due k d (turned o) a
due_turned k d None a = refl
due_turned OneWay Outgoing (Some (t, h)) a = refl
due_turned OneWay Incoming (Some (t, h)) a = refl
due_turned TwoWay Outgoing (Some (t, h)) a = grind (arith, nat_tests)
due_turned TwoWay Incoming (Some (t, h)) a = grind (arith, nat_tests)

far_turned : (o : Ends) (a b : ℕ) → Far o a b → Far (turned o) a b
far_turned None a b f = f
far_turned (Some (t, h)) a b f = let p = f.0 in let q = f.1 in (grind (arith, nat_tests), grind (arith, nat_tests))

fars_turned : (ends : ℕ → Ends) (a : ℕ) (xs : List Entry) → Fars ends a xs → Fars (λ e. turned (ends e)) a xs
fars_turned ends a [] f = f
fars_turned ends a (x ∷ xs) f = (far_turned (ends x.1) a x.2 f.0, fars_turned ends a xs f.1)

pub reversed_lawful : (m : Model) → Lawful m → Lawful (reversed m)
reversed_lawful m w = record {
  few_nodes = w.few_nodes;
  few_edges = w.few_edges;
  within = w.within;
  known = λ e t h is. let k = w.known e h t (turned_back (m.ends e) t h is) in (k.0, k.2, k.1);
  rows = λ d a.
      let r = w.rows (opposite d) a in
      record {
        ascends = r.ascends;
        exact = λ e. r.exact e ∙ ap bit (due_turned m.kind d (m.ends e) a);
        fars = fars_turned m.ends a (m.row (opposite d) a) r.fars;
      };
  even = λ k a. sym (w.even k a);
}

-- The node filter.

abbrev tail_in : Ends → ℕ
tail_in None = 0
tail_in (Some (t, h)) = t

abbrev head_in : Ends → ℕ
head_in None = 0
head_in (Some (t, h)) = h

module _ (has : Set) where
  kept_due : (k : Kind) (d : Direction) (t h a : ℕ) → has a ≡ true → cond (has (other (t, h) a)) (bit (due k d (Some (t, h)) a)) 0 ≡ bit (due k d (both has (Some (t, h))) a)
  kept_due OneWay Outgoing t h a ha = grind (arith, nat_tests)
  kept_due OneWay Incoming t h a ha = grind (arith, nat_tests)
  kept_due TwoWay Outgoing t h a ha = grind (arith, nat_tests)
  kept_due TwoWay Incoming t h a ha = grind (arith, nat_tests)

  gone_due : (k : Kind) (d : Direction) (t h a : ℕ) → has a ≡ false → 0 ≡ bit (due k d (both has (Some (t, h))) a)
  gone_due OneWay Outgoing t h a ha = grind (arith, nat_tests)
  gone_due OneWay Incoming t h a ha = grind (arith, nat_tests)
  gone_due TwoWay Outgoing t h a ha = grind (arith, nat_tests)
  gone_due TwoWay Incoming t h a ha = grind (arith, nat_tests)

  kept_far : (o : Ends) (a b : ℕ) → has a ≡ true → has b ≡ true → Far o a b → Far (both has o) a b
  kept_far None a b ha hb f = f
  kept_far (Some (t, h)) a b ha hb f =
      let p = f.0 in
      let q = f.1 in
      let two : (has t && has h) ≡ true = grind (arith, nat_tests) in
      rw two f

  kept_known : (o : Ends) (t h : ℕ) → both has o ≡ Some (t, h) → (o ≡ Some (t, h)) × (has t ≡ true) × (has h ≡ true)
  kept_known None t h e = let z : ◌≡◌ {A = ℕ} 0 1 = cc in absurd (omega arith)
  kept_known (Some (u, v)) t h e =
      ⊎_elim
      (λ (y : (has u && has v) ≡ true).
      let s : Some (u, v) ≡ Some (t, h) = rw y at e in
      let w = and_parts (has u) (has v) y in
      (s, ap (λ o. has (tail_in o)) (sym s) ∙ w.0, ap (λ o. has (head_in o)) (sym s) ∙ w.1))
      (λ (n : (has u && has v) ≡ false). let s : None ≡ Some (t, h) = rw n at e in let z : ◌≡◌ {A = ℕ} 0 1 = cc in absurd (omega arith))
      (cases_Bool (has u && has v))

  node_exact : (k : Kind) (d : Direction) (ends : ℕ → Ends) (a e : ℕ) (xs : List Entry) (o : Ends) → ends e ≡ o → count_of e xs ≡ bit (due k d o a) → Fars ends a xs → count_of e (cond (has a) (keep (λ x. has x.2) xs) []) ≡ bit (due k d (both has o) a)
  node_exact k d ends a e xs None is ex fs =
      let z : count_of e xs ≡ 0 = ex in
      elim (has a) as (λ b. count_of e (cond b (keep (λ x. has x.2) xs) []) ≡ 0) [ true ↦ keep_none (λ x. has x.2) e xs z | false ↦ refl ]
  node_exact k d ends a e xs (Some (t, h)) is ex fs =
      ⊎_elim
      (λ (y : has a ≡ true).
      let far : (b : ℕ) (x : Entry) → Leads e b xs → x.1 ≡ e → x.2 ≡ b → has x.2 ≡ has (other (t, h) a) =
      λ b x i _ q. let P : Ends → Type 0 = λ o. Far o a b in ap has (q ∙ (subst P is (leads_far ends a xs e b fs i)).0) in
      rw y (keep_count (λ x. has x.2) e (has (other (t, h) a)) xs far ∙ ap (λ n. cond (has (other (t, h) a)) n 0) ex ∙ kept_due k d t h a y))
      (λ (n : has a ≡ false). rw n (gone_due k d t h a n))
      (cases_Bool (has a))

  node_fars : (ends : ℕ → Ends) (a : ℕ) (xs : List Entry) → has a ≡ true → Fars ends a xs → Fars (λ e. both has (ends e)) a (keep (λ x. has x.2) xs)
  node_fars ends a [] ha fs = tt
  node_fars ends a (x ∷ xs) ha fs =
      let r = node_fars ends a xs ha fs.1 in
      ⊎_elim
      (λ (y : has x.2 ≡ true). rw y (kept_far (ends x.1) a x.2 ha y fs.0, r))
      (λ (n : has x.2 ≡ false). rw n r)
      (cases_Bool (has x.2))

  node_row : (k : Kind) (d : Direction) (ends : ℕ → Ends) (a : ℕ) (xs : List Entry) → Row k d ends a xs → Row k d (λ e. both has (ends e)) a (cond (has a) (keep (λ x. has x.2) xs) [])
  node_row k d ends a xs r = record {
    ascends = elim (has a) as (λ b. Ascends 0 (cond b (keep (λ x. has x.2) xs) [])) [ true ↦ keep_ascends (λ x. has x.2) 0 xs r.ascends | false ↦ omega arith ];
    exact = λ e. node_exact k d ends a e xs (ends e) refl (r.exact e) r.fars;
    fars =
        ⊎_elim
        (λ (y : has a ≡ true). rw y (node_fars ends a xs y r.fars))
        (λ (n : has a ≡ false). rw n tt)
        (cases_Bool (has a));
  }

  pub nodes_lawful : (m : Model) → Lawful m → Lawful (keep_nodes has m)
  nodes_lawful m w = record {
    few_nodes = w.few_nodes;
    few_edges = w.few_edges;
    within = λ a is. w.within a (and_parts (m.present a) (has a) is).0;
    known = λ e t h is.
        let b = kept_known (m.ends e) t h is in
        let k = w.known e t h b.0 in
        (k.0, and_from (m.present t) (has t) k.1 b.1, and_from (m.present h) (has h) k.2 b.2);
    rows = λ d a. node_row m.kind d m.ends a (m.row d a) (w.rows d a);
    even = λ k a. ap (λ r. cond (has a) (keep (λ x. has x.2) r) []) (w.even k a);
  }

-- The edge filter.

module _ (has : Set) where
  edge_known : (b : Bool) (o : Ends) (t h : ℕ) → cond b o None ≡ Some (t, h) → o ≡ Some (t, h)
  edge_known true o t h e = e
  edge_known false o t h e = let z : ◌≡◌ {A = ℕ} 0 1 = cc in absurd (omega arith)

  edge_due : (b : Bool) (k : Kind) (d : Direction) (o : Ends) (a n : ℕ) → n ≡ bit (due k d o a) → cond b n 0 ≡ bit (due k d (cond b o None) a)
  edge_due true k d o a n e = e
  edge_due false k d o a n e = refl

  edge_far : (ends : ℕ → Ends) (a : ℕ) (xs : List Entry) → Fars ends a xs → Fars (λ e. cond (has e) (ends e) None) a (keep (λ x. has x.1) xs)
  edge_far ends a [] fs = tt
  edge_far ends a (x ∷ xs) fs =
      let r = edge_far ends a xs fs.1 in
      ⊎_elim
      (λ (y : has x.1 ≡ true). rw y (rw y fs.0, r))
      (λ (n : has x.1 ≡ false). rw n r)
      (cases_Bool (has x.1))

  edge_row : (k : Kind) (d : Direction) (ends : ℕ → Ends) (a : ℕ) (xs : List Entry) → Row k d ends a xs → Row k d (λ e. cond (has e) (ends e) None) a (keep (λ x. has x.1) xs)
  edge_row k d ends a xs r = record {
    ascends = keep_ascends (λ x. has x.1) 0 xs r.ascends;
    exact = λ e. keep_count (λ x. has x.1) e (has e) xs (λ b x _ q _. ap has q) ∙ edge_due (has e) k d (ends e) a (count_of e xs) (r.exact e);
    fars = edge_far ends a xs r.fars;
  }

  pub edges_lawful : (m : Model) → Lawful m → Lawful (keep_edges has m)
  edges_lawful m w = record {
    few_nodes = w.few_nodes;
    few_edges = w.few_edges;
    within = w.within;
    known = λ e t h is. w.known e t h (edge_known (has e) (m.ends e) t h is);
    rows = λ d a. edge_row m.kind d m.ends a (m.row d a) (w.rows d a);
    even = λ k a. ap (keep (λ x. has x.1)) (w.even k a);
  }

pub views_lawful : ViewsLawful
views_lawful m w = record {
  reversed_lawful = reversed_lawful m w;
  nodes_lawful = λ has. nodes_lawful has m w;
  edges_lawful = λ has. edges_lawful has m w;
}
