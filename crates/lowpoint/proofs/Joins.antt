-- The tests of bridges and cut nodes decide what they should. Assumes nothing.
use Rattle.std.proofs.Common.{◌≡◌, ℕ, zero, suc, ◌<◌, ◌≤◌, Bool, true, false, cond, not, eqb, ◌⊎◌, List, [], ◌∷◌, ◌++◌, Some, None, Decides, sym, refl, ap, ◌∙◌, inl, inr, ⊎_elim, arith}
use Rattle.std.proofs.lemmas.Bool.{cases_eq, cases_Bool, both_ways, and_parts, and_from, not-true, not_from_false, ne_eqb, eqb-false}
use Rattle.std.proofs.lemmas.Bool.Decides.{Decides-like, Decides-not, not_from_Decides}
use Rattle.model.specs.Model.{Model, Ends, Lawful}
use Rattle.model.specs.Paths.{Step, Follows, In, nodes_of, edges_of, Touches, Reaches}
use Rattle.model.specs.Sets.{Set}
use Rattle.model.specs.Views.{keep_nodes, keep_edges}
use Rattle.model.proofs.Models.{path_present}
use Rattle.model.proofs.Views.{nodes_lawful, edges_lawful}
use Rattle.model.proofs.Piles.{node_paths, edge_paths}
use Rattle.theory.specs.Models.{upto, joined}
use Rattle.theory.proofs.Members.{in_cases}
use Rattle.theory.proofs.Models.{upto_below, upto_only, upto_in, paths_law}
use Rattle.lowpoint.specs.Cuts.{Bridge, CutNode, but, parted, is_bridge, any, parts, is_cut, Rising, CutsLaw}

follows_end : (m : Model) (a : ℕ) (s : List Step) (b : ℕ) → Follows m a s b → Touches b a s
follows_end m a [] b f = inl (sym f)
follows_end m a (x ∷ s) b f =
    ⊎_elim (λ (q : b ≡ x.1). inr (inl q)) (λ (i : In b (nodes_of s)). inr (inr i)) (follows_end m x.1 s b f.1)

module _ (m : Model) (w : Lawful m) where
  joined_decides : (a b : ℕ) → m.present a ≡ true → Decides (joined m a b) (Reaches m a b)
  joined_decides a b h = let p = paths_law m w a b h in (p.sound, p.whole)

  reaches_below : (a b : ℕ) → Reaches m a b → b < m.nodes
  reaches_below a b r = w.within b (path_present m w a r.0 b r.1 b (follows_end m a r.0 b r.1.steps))

but_yes : (k x : ℕ) → (x ≡ k → ⊥) → but k x ≡ true
but_yes k x n = rw (ne_eqb x k n)

but_no : (k x : ℕ) → but k x ≡ true → x ≡ k → ⊥
but_no k x t = eqb-false x k (not-true (eqb x k) t)

-- Bridges.

module _ (m : Model) (w : Lawful m) (e : ℕ) where
  parted_bridge : (t h : ℕ) → m.ends e ≡ Some (t, h) → (Reaches (keep_edges (but e) m) t h → ⊥) → Bridge m e
  parted_bridge t h q n =
      record {
        tail = t;
        head = h;
        ends = q;
        every = λ s p.
            ⊎_elim (λ (i : In e (edges_of s)). i)
            (λ (o : In e (edges_of s) → ⊥). absurd (n (s, (edge_paths (but e) m t s h).up p (λ f u. but_yes e f (λ c. o (rw (← c) u))))))
            (in_cases e (edges_of s));
      }

  bridge_parted : (b : Bridge m e) → Reaches (keep_edges (but e) m) b.tail b.head → ⊥
  bridge_parted b r =
      let d = (edge_paths (but e) m b.tail r.0 b.head).down r.1 in
      but_no e e (d.1 e (b.every r.0 d.0)) refl

  by_ends : (o : Ends) → m.ends e ≡ o → Decides (parted (keep_edges (but e) m) o) (Bridge m e)
  by_ends None q = (λ t. absurd (both_ways false refl t), λ b. let z : ◌≡◌ {A = ℕ} 0 1 = (let x = b.ends in cc) in absurd (omega arith))
  by_ends (Some (t, h)) q =
      Decides-like (not (joined (keep_edges (but e) m) t h)) (parted_bridge t h q)
      (λ b r.
      let s : ◌≡◌ {A = Ends} (Some (b.tail, b.head)) (Some (t, h)) = sym b.ends ∙ q in
      let p : ◌≡◌ {A = ℕ × ℕ} (b.tail, b.head) (t, h) = cc in
      let x : b.tail ≡ t = ap (λ z. z.0) p in
      let y : b.head ≡ h = ap (λ z. z.1) p in
      bridge_parted b (rw (x, y) r))
      (Decides-not (joined (keep_edges (but e) m) t h) (joined_decides (keep_edges (but e) m) (edges_lawful (but e) m w) t h (w.known e t h q).1))

pub bridge_decides : (m : Model) → Lawful m → (e : ℕ) → Decides (is_bridge m e) (Bridge m e)
bridge_decides m w e = by_ends m w e (m.ends e) refl

-- Cut nodes.

any_some : (p : Set) (n : ℕ) → any p n ≡ true → (k : ℕ) × ((k < n) × (p k ≡ true))
any_some p zero t = absurd (both_ways false refl t)
any_some p (suc n) t =
    ⊎_elim (λ (h : p n ≡ true). (n, (omega arith, h)))
    (λ (h : p n ≡ false). let r = any_some p n (rw h at t) in let l = r.1.0 in (r.0, (omega arith, r.1.1)))
    (cases_Bool (p n))

some_any : (p : Set) (n k : ℕ) → k < n → p k ≡ true → any p n ≡ true
some_any p zero k l h = absurd (omega arith)
some_any p (suc n) k l h =
    ⊎_elim (λ (q : k ≡ n). let x : p n ≡ true = rw (← q) h in rw x)
    (λ (q : k ≡ n → ⊥). let r = some_any p n k (omega arith) h in grind arith)
    (cases_eq k n)

module _ (m : Model) (w : Lawful m) (v : ℕ) where
  touched : (a : ℕ) (s : List Step) → Touches v a s ⊎ (Touches v a s → ⊥)
  touched a s =
      ⊎_elim (λ (q : v ≡ a). inl (inl q))
      (λ (n : v ≡ a → ⊥). ⊎_elim (λ (i : In v (nodes_of s)). inl (inr i)) (λ (o : In v (nodes_of s) → ⊥). inr (⊎_elim n o)) (in_cases v (nodes_of s)))
      (cases_eq v a)

  around : (a b : ℕ) → m.present a ≡ true → but v a ≡ true → Decides (joined (keep_nodes (but v) m) a b) (Reaches (keep_nodes (but v) m) a b)
  around a b h o = joined_decides (keep_nodes (but v) m) (nodes_lawful (but v) m w) a b (and_from _ _ h o)

  cut_from : (a b : ℕ) → m.present v ≡ true → parts m v a b ≡ true → CutNode m v
  cut_from a b here t =
      let h = and_parts (m.present a) _ t in
      let p = and_parts (but v a) _ h.1 in
      let q = and_parts (but v b) _ p.1 in
      let r = and_parts (joined m a b) _ q.1 in
      let n = not_from_Decides (joined (keep_nodes (but v) m) a b) (around a b h.0 p.0) (not-true _ r.1) in
      record {
        present = here;
        one = a;
        two = b;
        one_other = but_no v a p.0;
        two_other = but_no v b q.0;
        path = (joined_decides m w a b h.0).0 r.0;
        every = λ s x.
            ⊎_elim (λ (i : Touches v a s). i)
            (λ (o : Touches v a s → ⊥). absurd (n (s, (node_paths (but v) m a s b).up x (λ u i. but_yes v u (λ c. o (rw (← c) i))))))
            (touched a s);
      }

  cut_to : (c : CutNode m v) → parts m v c.one c.two ≡ true
  cut_to c =
      let a = c.one in
      let b = c.two in
      let h = c.path.1.start in
      let o = but_yes v a c.one_other in
      let n : joined (keep_nodes (but v) m) a b ≡ false = (
      ⊎_elim
      (λ (t : joined (keep_nodes (but v) m) a b ≡ true).
      let r = (around a b h o).0 t in
      let d = (node_paths (but v) m a r.0 b).down r.1 in
      absurd (but_no v v (d.1 v (c.every r.0 d.0)) refl))
      (λ (t : joined (keep_nodes (but v) m) a b ≡ false). t)
      (cases_Bool (joined (keep_nodes (but v) m) a b))
      ) in
      and_from _ _ h
      (and_from _ _ o (and_from _ _ (but_yes v b c.two_other) (and_from _ _ ((joined_decides m w a b h).1 c.path) (not_from_false _ n))))

  pub cut_decides : Decides (is_cut m v) (CutNode m v)
  cut_decides = (
    λ t.
        let p = and_parts (m.present v) _ t in
        let a = any_some (λ a. any (parts m v a) m.nodes) m.nodes p.1 in
        let b = any_some (parts m v a.0) m.nodes a.1.1 in
        cut_from a.0 b.0 p.0 b.1.1,
    λ c.
        and_from _ _ c.present
        (some_any _ m.nodes c.one (w.within c.one c.path.1.start)
        (some_any _ m.nodes c.two (reaches_below m w c.one c.two c.path) (cut_to c))),
  )

-- Lists of the numbers that pass.

module _ (p : Set) where
  rising_on : (low : ℕ) (xs : List ℕ) (n : ℕ) → Rising low xs → ((k : ℕ) → In k xs → k < n) → low ≤ n → Rising low (xs ++ (n ∷ []))
  rising_on low [] n r h l = (l, tt)
  rising_on low (x ∷ xs) n r h l = (r.0, rising_on (suc x) xs n r.1 (λ k i. h k (inr i)) (h x (inl refl)))

  pub upto_rises : (n : ℕ) → Rising 0 (upto p n)
  upto_rises zero = tt
  upto_rises (suc n) = go (p n) (upto_rises n)
    where
      go : (b : Bool) → Rising 0 (upto p n) → Rising 0 (cond b (upto p n ++ (n ∷ [])) (upto p n))
      go true r = rising_on 0 (upto p n) n r (upto_below p n) (omega arith)
      go false r = r

pub cuts_law : CutsLaw
cuts_law m w =
    record {
      bridges = record {
        ascends = upto_rises (is_bridge m) m.edges;
        sound = λ e i. (bridge_decides m w e).0 (upto_only (is_bridge m) m.edges e i);
        whole = λ e b. upto_in (is_bridge m) m.edges e (w.known e b.tail b.head b.ends).0 ((bridge_decides m w e).1 b);
      };
      cuts = record {
        ascends = upto_rises (is_cut m) m.nodes;
        sound = λ v i. (cut_decides m w v).0 (upto_only (is_cut m) m.nodes v i);
        whole = λ v c. upto_in (is_cut m) m.nodes v (w.within v c.present) ((cut_decides m w v).1 c);
      };
    }
