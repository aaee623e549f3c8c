-- The search from every number in turn, over lent memory. Assumes nothing.
use Rattle.std.proofs.Common.{◌≡◌, ℕ, zero, suc, ◌+◌, ◌-◌, ◌<◌, ◌≤◌, Bool, true, false, cond, eqb, leb, List, [], ◌∷◌, ◌++◌, length, get_or, Some, None, sym, refl, ap, ◌∙◌, subst, ⊎_elim, arith}
use Rattle.std.proofs.lemmas.Bool.{cases_eq, cases_lt, both_ways, ne_eqb}
use Rattle.model.specs.declared.Kind.TheVariants.{TwoWay}
use Rattle.model.specs.Model.{Model, Ends, Lawful}
use Rattle.model.specs.Sets.{nothing}
use Rattle.theory.specs.Models.{upto}
use Rattle.theory.specs.Walk.{left}
use Rattle.theory.proofs.Models.{upto_plus}
use Rattle.theory.proofs.Sets.{add_same, add_kept, left_most}
use Rattle.lowpoint.specs.Lows.{Hops, Search, enter, explore, roots, blank, Frame, Stage, turns, score}
use Rattle.lowpoint.specs.Finds.{hops_of, no_edge, searched, arrived, entered_by}
use Rattle.lowpoint.specs.Steps.{Memory, Shows, Ready, LeadsTo, Clean, Between, rooting, Searched}
use Rattle.lowpoint.proofs.Scans.{kept}
use Rattle.lowpoint.proofs.Bridges.{explored}
use Rattle.lowpoint.proofs.Loops.{loop_law}
use Rattle.lowpoint.proofs.Hops.{two_way_hops}
use Rattle.lowpoint.proofs.Finds.{out_arrived, out_score, searched_tree, finds_law}
use Rattle.lowpoint.proofs.Steps.{push, turns_add}

abbrev stage : List Frame → Search → Stage
stage fs σ = record { frames = fs; state = σ }

-- Runs of the loop that both end agree.

turns_end : (row : Hops) (k : ℕ) (σ : Search) → turns row k (stage [] σ) ≡ stage [] σ
turns_end row zero σ = refl
turns_end row (suc k) σ = turns_end row k σ

later : (row : Hops) (i k : ℕ) (b : Stage) (σ : Search) → turns row i b ≡ stage [] σ → i ≤ k → turns row k b ≡ stage [] σ
later row i k b σ e l =
    let s : k ≡ i + (k - i) = omega arith in
    ap (λ n. turns row n b) s ∙ turns_add row i (k - i) b ∙ ap (turns row (k - i)) e ∙ turns_end row (k - i) σ

ended : (b : Stage) → 0 ≡ length b.frames → b ≡ stage [] b.state
ended b h = go b.frames h
  where
    go : (fs : List Frame) → 0 ≡ length fs → stage fs b.state ≡ stage [] b.state
    go [] h = refl
    go (f ∷ fs) h = absurd (omega arith)

both_end : (row : Hops) (i k : ℕ) (b : Stage) (σ : Search) → turns row i b ≡ stage [] σ → 0 ≡ length (turns row k b).frames → turns row k b ≡ stage [] σ
both_end row i k b σ e h =
    ⊎_elim
    (λ (l : k < i).
    let s = ended (turns row k b) h in
    let t = later row k i b (turns row k b).state s (omega arith) in
    s ∙ sym t ∙ e)
    (λ (l : i ≤ k). later row i k b σ e l)
    (cases_lt k i)

-- The search from one more number.

roots_snoc : (row : Hops) (N M : ℕ) (rs : List ℕ) (r : ℕ) (σ : Search) → roots row N M (rs ++ r ∷ []) σ ≡ roots row N M (r ∷ []) (roots row N M rs σ)
roots_snoc row N M [] r σ = refl
roots_snoc row N M (x ∷ rs) r σ = go (σ.seen x) (roots_snoc row N M rs r)
  where
    σ₁ : Search
    σ₁ = (explore row N x M σ).after

    go : (b : Bool) → ((τ : Search) → roots row N M (rs ++ r ∷ []) τ ≡ roots row N M (r ∷ []) (roots row N M rs τ)) → cond b (roots row N M (rs ++ r ∷ []) σ) (roots row N M (rs ++ r ∷ []) σ₁) ≡ roots row N M (r ∷ []) (cond b (roots row N M rs σ) (roots row N M rs σ₁))
    go true f = f σ
    go false f = f σ₁

pub searched_more : (m : Model) (i : ℕ) → searched m (i + 1) ≡ cond ((searched m i).seen i) (searched m i) (explore (hops_of m) m.nodes i no_edge (searched m i)).after
searched_more m i = ap (λ rs. roots (hops_of m) m.nodes no_edge rs blank) (upto_plus (λ _. true) i) ∙ roots_snoc (hops_of m) m.nodes no_edge (upto (λ _. true) i) i blank

left_none : (n : ℕ) → left (λ _. 1) nothing n ≡ n
left_none zero = refl
left_none (suc n) = let r = left_none n in omega arith

pub begun : {m : Model} {a : Memory} → Clean m a → Between m 0 a
begun {m = m} {a = a} c =
    let d = c.depth in
    let k = c.clock in
    record {
      roomy = c.roomy;
      depth_is = c.depth;
      framed = tt;
      once = tt;
      opens_seen = λ z i. absurd i;
      rooted = tt;
      numbers_are = c.numbers;
      seen_is = λ z. refl;
      clock_is = c.clock;
      counted = let l = left_none m.nodes in omega arith;
      few = omega arith;
      arrivals_are = λ z t. absurd (both_ways false refl t);
      marks_are = λ z. ap (λ s. s z) c.marks;
    }

module _ (m : Model) (w : Lawful m) (two : m.kind ≡ TwoWay) (i : ℕ) (below : i < m.nodes) where
  abbrev σ : Search
  σ = searched m i

  abbrev first : Stage
  first = stage (record { node = i; above = no_edge; rest = hops_of m i; low = σ.clock } ∷ []) (enter σ i)

  unseen : {a : Memory} → Between m i a → get_or a.numbers i 0 ≡ 0 → σ.seen i ≡ false
  unseen B z = B.seen_is i ∙ (let n = sym (B.numbers_are i) ∙ z in rw n)

  seen : {a : Memory} → Between m i a → (get_or a.numbers i 0 ≡ 0 → ⊥) → σ.seen i ≡ true
  seen B n = B.seen_is i ∙ (let x = B.numbers_are i in let e : eqb (σ.num i) 0 ≡ false = ne_eqb (σ.num i) 0 (λ q. n (x ∙ q)) in rw e)

  unbranched : {a : Memory} → Between m i a → Between m i (record { stack = a.stack; depth = a.depth; numbers = a.numbers; lows = a.lows; arrivals = a.arrivals; cursors = a.cursors; clock = a.clock; branched = false; marks = a.marks })
  unbranched B =
      record {
        roomy = record { stack = B.roomy.stack; numbers = B.roomy.numbers; lows = B.roomy.lows; arrivals = B.roomy.arrivals; cursors = B.roomy.cursors };
        depth_is = B.depth_is;
        framed = tt;
        once = tt;
        opens_seen = λ z i. absurd i;
        rooted = tt;
        numbers_are = B.numbers_are;
        seen_is = B.seen_is;
        clock_is = B.clock_is;
        counted = B.counted;
        few = B.few;
        arrivals_are = B.arrivals_are;
        marks_are = B.marks_are;
      }

  pub root_shows : {a : Memory} → Between m i a → get_or a.numbers i 0 ≡ 0 → Shows m (rooting a i) first
  root_shows {a = a} B z =
      let u = unseen B z in
      let T = searched_tree m w two i (omega arith) in
      let out : arrived σ.found i ≡ no_edge = out_arrived σ.found i (λ j. both_ways (σ.seen i) u (T.fars_seen i j)) in
      let s : score no_edge i σ.found ≡ 0 = out_score no_edge σ.found i (λ j. both_ways (σ.seen i) u (T.nears_seen i j)) in
      push m w _ [] σ (unbranched B) i below u no_edge (refl, (out, sym (ap (leb 1) s)))

  -- the number was discovered before
  pub next_seen : {a : Memory} → Between m i a → (get_or a.numbers i 0 ≡ 0 → ⊥) → Between m (i + 1) a
  next_seen {a = a} B n =
      let e : searched m (i + 1) ≡ σ = searched_more m i ∙ (let t = seen B n in rw t) in
      let P : Search → Type 0 = λ τ. Shows m a (stage [] τ) in
      subst P (sym e) B

  -- it is a new root, and the loop ran to its end
  pub next_root : {a a₁ a' : Memory} → Between m i a → get_or a.numbers i 0 ≡ 0 → a₁ ≡ rooting a i → LeadsTo m a₁ a' → a'.depth ≡ 0 → Between m (i + 1) a'
  next_root {a = a} {a' = a'} B z e₁ r₁ d =
      let L : Memory → Type 0 = λ z. LeadsTo m z a' in
      let r = subst L e₁ r₁ in
      let u = unseen B z in
      let g = two_way_hops m w two in
      let l = loop_law (hops_of m) m.nodes no_edge g i below σ u in
      let x = r first (root_shows B z) in
      let e : searched m (i + 1) ≡ (explore (hops_of m) m.nodes i no_edge σ).after = searched_more m i ∙ rw u in
      let b = both_end (hops_of m) l.0 x.0 first (explore (hops_of m) m.nodes i no_edge σ).after l.1 (sym d ∙ x.1.depth_is) in
      let P : Stage → Type 0 = λ s. Shows m a' s in
      subst P (b ∙ ap (stage []) (sym e)) x.1

pub root_ready : {m : Model} → Lawful m → m.kind ≡ TwoWay → (i : ℕ) → i < m.nodes → {a a₁ : Memory} → Between m i a → get_or a.numbers i 0 ≡ 0 → a₁ ≡ rooting a i → Ready m a₁
root_ready {m = m} w two i l B z e =
    let P : Memory → Type 0 = Ready m in
    subst P (sym e) (record { stage = first m w two i l; shown = root_shows m w two i l B z })

module _ (m : Model) (w : Lawful m) (two : m.kind ≡ TwoWay) where
  searched_all : (n : ℕ) → n ≤ m.nodes → (z : ℕ) → z < n → (searched m n).seen z ≡ true
  searched_all zero h z l = absurd (omega arith)
  searched_all (suc n) h z l = subst P (sym e) (go ((searched m n).seen n) refl (λ k. searched_all n (omega arith) z k))
    where
      P : Search → Type 0
      P τ = τ.seen z ≡ true

      after : Search
      after = (explore (hops_of m) m.nodes n no_edge (searched m n)).after

      e : searched m (suc n) ≡ cond ((searched m n).seen n) (searched m n) after
      e = (let s : suc n ≡ n + 1 = omega arith in ap (searched m) s) ∙ searched_more m n

      go : (b : Bool) → (searched m n).seen n ≡ b → (z < n → (searched m n).seen z ≡ true) → P (cond b (searched m n) after)
      go true t f = ⊎_elim (λ (q : z ≡ n). rw q t) (λ (o : z ≡ n → ⊥). f (omega arith)) (cases_eq z n)
      go false t f =
          let d = explored (hops_of m) m.nodes no_edge (two_way_hops m w two) m.nodes n no_edge (searched m n) t (omega arith) (left_most (searched m n).seen m.nodes) in
          let here = add_same (searched m n).seen n in
          ⊎_elim (λ (q : z ≡ n). kept (hops_of m) d z (rw q here)) (λ (o : z ≡ n → ⊥). kept (hops_of m) d z (add_kept (searched m n).seen n z (f (omega arith)))) (cases_eq z n)

  all_searched : {a : Memory} → Between m m.nodes a → Searched m a.arrivals a.marks
  all_searched {a = a} B =
      let F = finds_law m w two in
      record { bridges = λ e. by_ends e (m.ends e) refl ∙ F.bridges e; cuts = λ v. B.marks_are v ∙ F.cuts v }
    where
      found : ℕ → ℕ
      found = arrived (searched m m.nodes).found

      same : (z : ℕ) → m.present z ≡ true → get_or a.arrivals z 0 ≡ found z
      same z h = B.arrivals_are z (searched_all m.nodes (omega arith) z (w.within z h)) (λ i. i)

      by_ends : (e : ℕ) (o : Ends) → m.ends e ≡ o → entered_by (λ z. get_or a.arrivals z 0) o e ≡ entered_by found o e
      by_ends e None q = refl
      by_ends e (Some (t, h)) q =
          let k = w.known e t h q in
          let x = same t k.1 in
          let y = same h k.2 in
          rw (x, y)

  pub end_searched : (i : ℕ) → i ≡ m.nodes → {a : Memory} → Between m i a → Searched m a.arrivals a.marks
  end_searched i e {a = a} B = let P : ℕ → Type 0 = λ n. Between m n a in all_searched (subst P e B)
