-- A row in the middle of being pushed. Assumes nothing.
use Rattle.std.proofs.Common.{◌≡◌, ℕ, ◌+◌, ◌<◌, ◌≤◌, Bool, true, false, cond, ◌&&◌, ◌||◌, eqb, List, ◌∷◌, length, get_or, set, Some, None, Option, sym, refl, ap, ◌∙◌, inl, inr, ⊎_elim, arith}
use Rattle.std.proofs.lemmas.Bool.Decides.{nat_tests}
use Rattle.std.proofs.lemmas.Bool.{cases_Bool, or_parts, cond-true, cond-false}
use Rattle.std.proofs.lemmas.List.{length-set}
use Rattle.graph.specs.declared.Graph.{Ghosts as GraphGhosts}
use Rattle.marks.specs.declared.VisitMap.{Ghosts as MapGhosts}
use Rattle.model.specs.declared.Direction.TheVariants.{Outgoing}
use Rattle.model.specs.Model.{Entry}
use Rattle.model.specs.Paths.{In}
use Rattle.model.specs.Sets.{Set}
use Rattle.theory.specs.Walk.{pushed}
use Rattle.theory.specs.Order.{member, or_else}
use Rattle.theory.specs.Models.{fars}
use Rattle.theory.specs.Memory.{down}
use Rattle.theory.proofs.Memory.{down_push}
use Rattle.theory.proofs.Models.{rows_within}
use Rattle.order.specs.declared.search.Search.{Search}
use Rattle.order.specs.Search.{graph_of, rows, seen, Kept, Quiet}

-- a's self-loop, if one of these leads to a
abbrev pub looping : ℕ → List ℕ → Option ℕ
looping a ys = cond (member a ys) (Some a) None

loop_step : (o : Option ℕ) (a : ℕ) (e m : Bool) → or_else (or_else o (cond e (Some a) None)) (cond m (Some a) None) ≡ or_else o (cond (cond e true m) (Some a) None)
loop_step (Some j) a e m = refl
loop_step None a true m = refl
loop_step None a false m = refl

or_none : (o : Option ℕ) → or_else o None ≡ o
or_none (Some j) = refl
or_none None = refl

quiet_one : (s : Set) (ranks : List ℕ) (far : ℕ) (ys : List ℕ) → (s far && eqb (get_or ranks far 0) 0) ≡ false → Quiet s ranks ys → Quiet s ranks (far ∷ ys)
quiet_one s ranks far ys b q y (inr i) k = q y i k
quiet_one s ranks far ys b q y (inl e) k =
    let t : s far ≡ true = rw (← e) k in
    let z : eqb (get_or ranks far 0) 0 ≡ false = rw t at b in
    rw e (grind (arith, nat_tests))

module _ {G M : Type 0} {graphs : GraphGhosts G} {maps : MapGhosts M} where
  -- the search as it was when the row began, and as it is
  pub record Pushing (a : ℕ) (rest row : List Entry) (s t : Search G M graphs maps) : Type 0 where
    pub kept : Kept s t
    pub inside : (y : ℕ) → In y (fars rest) → y < (graph_of s).nodes
    pub roomy : t.depth + length (fars rest) ≤ length t.stack.now
    pub along : t.depth + length (fars rest) ≤ s.depth + length (fars row)
    pub same : pushed (seen s) (fars rest) (down t.stack.now t.depth) ≡ pushed (seen s) (fars row) (down s.stack.now s.depth)
    pub calm : t.back ≡ false → s.back ≡ false
    pub quiet : t.back ≡ false → Quiet (seen s) s.ranks.now (fars rest) → Quiet (seen s) s.ranks.now (fars row)
    pub loops : or_else t.looped (looping a (fars rest)) ≡ or_else s.looped (looping a (fars row))

  pub push_none : {s : Search G M graphs maps} (a : ℕ) (rest : List Entry) → rest ≡ (graph_of s).row Outgoing a → s.depth + length (rows s a) ≤ length s.stack.now → Pushing a rest ((graph_of s).row Outgoing a) s s
  push_none {s} a rest e h = rw e (record { kept = record { graph = refl; marks = refl; ranks = refl; list = refl; count = refl }; inside = λ y i. rows_within (graph_of s) (graphs.lawful s.graph.now) a y i; roomy = h; along = omega arith; same = refl; calm = λ b. b; quiet = λ _ q. q; loops = refl })

  kept_on : {s t u : Search G M graphs maps} → Kept s t → Kept t u → Kept s u
  kept_on k l = record { graph = l.graph ∙ k.graph; marks = l.marks ∙ k.marks; ranks = l.ranks ∙ k.ranks; list = l.list ∙ k.list; count = l.count ∙ k.count }

  module _ {a : ℕ} {row : List Entry} {s t u : Search G M graphs maps} where
    -- one entry, as the code pushes it
    pub push_one : {rest : List Entry} (x : Entry) (ys : List Entry) → Pushing a rest row s t → rest ≡ x ∷ ys → Kept t u → u.stack.now ≡ cond (seen t x.2) t.stack.now (set t.stack.now t.depth x.2) → u.depth ≡ cond (seen t x.2) t.depth (t.depth + 1) → u.back ≡ (t.back || (seen t x.2 && eqb (get_or t.ranks.now x.2 0) 0)) → u.looped ≡ or_else t.looped (cond (eqb a x.2) (Some a) None) → Pushing a ys row s u
    push_one {rest} x ys p e k me' de' be' oe =
        let q = rw e at p in
        let far = x.2 in
        let m : seen t ≡ seen s = ap (λ r. maps.marked r.now) q.kept.marks in
        let me : u.stack.now ≡ cond (seen s far) t.stack.now (set t.stack.now t.depth far) = rw m at me' in
        let de : u.depth ≡ cond (seen s far) t.depth (t.depth + 1) = rw m at de' in
        let be : u.back ≡ (t.back || (seen s far && eqb (get_or s.ranks.now far 0) 0)) = rw (m, q.kept.ranks) at be' in
        let l = length-set t.stack.now t.depth far in
        let fits : t.depth < length t.stack.now = omega (arith, q.roomy) in
        let parts : u.back ≡ false → (t.back ≡ false) × ((seen s far && eqb (get_or s.ranks.now far 0) 0) ≡ false) = λ b. or_parts t.back (seen s far && eqb (get_or s.ranks.now far 0) 0) (sym be ∙ b) in
        let calm : u.back ≡ false → s.back ≡ false = λ b. q.calm (parts b).0 in
        let quiet : u.back ≡ false → Quiet (seen s) s.ranks.now (fars ys) → Quiet (seen s) s.ranks.now (fars row) = λ b v. q.quiet (parts b).0 (quiet_one (seen s) s.ranks.now far (fars ys) (parts b).1 v) in
        let loops : or_else u.looped (looping a (fars ys)) ≡ or_else s.looped (looping a (fars row)) = ap (λ o. or_else o (looping a (fars ys))) oe ∙ loop_step t.looped a (eqb a far) (member a (fars ys)) ∙ q.loops in
        ⊎_elim
        (λ (k₁ : seen s far ≡ true).
        let m₁ : u.stack.now ≡ t.stack.now = me ∙ cond-true (seen s far) t.stack.now (set t.stack.now t.depth far) k₁ in
        let n : u.depth ≡ t.depth = de ∙ cond-true (seen s far) t.depth (t.depth + 1) k₁ in
        record {
          kept = kept_on q.kept k;
          inside = λ y i. q.inside y (inr i);
          roomy = omega (arith, q.roomy, ap length m₁);
          along = omega (arith, q.along);
          same = ap (λ z. pushed (seen s) (fars ys) (down z u.depth)) m₁ ∙ ap (λ z. pushed (seen s) (fars ys) (down t.stack.now z)) n ∙ ap (pushed (seen s) (fars ys)) (sym (cond-true (seen s far) (down t.stack.now t.depth) (far ∷ down t.stack.now t.depth) k₁)) ∙ q.same;
          calm = calm;
          quiet = quiet;
          loops = loops;
        })
        (λ (k₁ : seen s far ≡ false).
        let m₁ : u.stack.now ≡ set t.stack.now t.depth far = me ∙ cond-false (seen s far) t.stack.now (set t.stack.now t.depth far) k₁ in
        let n : u.depth ≡ t.depth + 1 = de ∙ cond-false (seen s far) t.depth (t.depth + 1) k₁ in
        record {
          kept = kept_on q.kept k;
          inside = λ y i. q.inside y (inr i);
          roomy = omega (arith, q.roomy, ap length m₁);
          along = omega (arith, q.along);
          same = ap (λ z. pushed (seen s) (fars ys) (down z u.depth)) m₁ ∙ ap (λ z. pushed (seen s) (fars ys) (down (set t.stack.now t.depth far) z)) n ∙ ap (pushed (seen s) (fars ys)) (down_push t.stack.now t.depth far fits ∙ sym (cond-false (seen s far) (down t.stack.now t.depth) (far ∷ down t.stack.now t.depth) k₁)) ∙ q.same;
          calm = calm;
          quiet = quiet;
          loops = loops;
        })
        (cases_Bool (seen s far))

  module _ {s t : Search G M graphs maps} where
    -- an entry that is left leads to a node, and there is room for it
    pub left_room : {a : ℕ} {row rest : List Entry} (x : Entry) (ys : List Entry) → Pushing a rest row s t → rest ≡ x ∷ ys → (x.2 < (graph_of t).nodes) × (t.depth < length t.stack.now) × (t.depth < s.depth + length (fars row))
    left_room x ys p e =
        let q = rw e at p in
        let n : (graph_of t).nodes ≡ (graph_of s).nodes = ap (λ b. (graphs.model b.now).nodes) q.kept.graph in
        (omega (arith, n, q.inside x.2 (inl refl)), omega (arith, q.roomy), omega (arith, q.along))

  -- nothing is left to push
  pub record Pushed (a : ℕ) (row : List Entry) (s t : Search G M graphs maps) : Type 0 where
    pub kept : Kept s t
    pub same : down t.stack.now t.depth ≡ pushed (seen s) (fars row) (down s.stack.now s.depth)
    pub calm : t.back ≡ false → (s.back ≡ false) × Quiet (seen s) s.ranks.now (fars row)
    pub loops : t.looped ≡ or_else s.looped (looping a (fars row))
