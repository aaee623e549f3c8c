-- The loop over a stack of open nodes does what the search does. Assumes nothing.
use Rattle.std.proofs.Common.{◌≡◌, ℕ, zero, suc, ◌+◌, min, true, List, [], ◌∷◌, length, refl, ◌∙◌}
use Rattle.std.proofs.lemmas.Bool.{eq-eqb, ne_eqb}
use Rattle.model.specs.Paths.{Step}
use Rattle.lowpoint.specs.Lows.{Hops, Search, enter, leave, Frame, Stage, turn, turns, LoopLaw}
use Rattle.theory.proofs.Sets.{add_same, add_kept, left_most}
use Rattle.lowpoint.proofs.Scans.{put_other, Scan, over, up, aside, down, differ, kept, stays, own}
use Rattle.lowpoint.proofs.Bridges.{explored}

abbrev frame : ℕ → ℕ → List Step → ℕ → Frame
frame x pe es l = record { node = x; above = pe; rest = es; low = l }

abbrev stage : List Frame → Search → Stage
stage fs σ = record { frames = fs; state = σ }

abbrev Leads : Hops → Stage → Stage → Type 0
Leads row a b = (k : ℕ) × (turns row k a ≡ b)

leads_on : (row : Hops) (k : ℕ) (a b c : Stage) → turns row k a ≡ b → Leads row b c → Leads row a c
leads_on row zero a b c e l = (l.0, rw e l.1)
leads_on row (suc k) a b c e l =
    let r = leads_on row k (turn row a.frames a.state) b c e l in
    (suc r.0, r.1)

leads_turn : (row : Hops) (a b c : Stage) → turn row a.frames a.state ≡ b → Leads row b c → Leads row a c
leads_turn row a b c e l = (suc l.0, rw e l.1)

module _ (row : Hops) where
  ran : {x pe : ℕ} {es : List Step} {σ : Search} {l : ℕ} {σ' : Search} {l' : ℕ} → Scan row x pe es σ l σ' l' → σ.seen x ≡ true → (fs : List Frame) → Leads row (stage (frame x pe es l ∷ fs) σ) (stage (frame x pe [] l' ∷ fs) σ')
  ran over here fs = (0, refl)
  ran (up {x = x} {pe = pe} {p = p} {es = es} {σ = σ} {l = l} {σ' = σ'} {l' = l'} q d) here fs =
      leads_turn row (stage (frame x pe (p ∷ es) l ∷ fs) σ) (stage (frame x pe es l ∷ fs) σ) (stage (frame x pe [] l' ∷ fs) σ') (rw (eq-eqb p.0 pe q)) (ran d here fs)
  ran (aside {x = x} {pe = pe} {p = p} {es = es} {σ = σ} {l = l} {σ' = σ'} {l' = l'} q t d) here fs =
      leads_turn row (stage (frame x pe (p ∷ es) l ∷ fs) σ) (stage (frame x pe es (min l (σ.num p.1)) ∷ fs) σ) (stage (frame x pe [] l' ∷ fs) σ') (rw (ne_eqb p.0 pe q, t)) (ran d here fs)
  ran (down {x = x} {pe = pe} {p = p} {es = es} {σ = σ} {l = l} {σ₁ = σ₁} {l₁ = l₁} {σ' = σ'} {l' = l'} q t d r) here fs =
      let y = p.1 in
      let a = ran d (add_same σ.seen y) (frame x pe es l ∷ fs) in
      let k = add_kept σ.seen y x here in
      let ex : σ₁.num x ≡ σ.num x = stays row d x k ∙ put_other σ.num y σ.clock x (differ σ.seen y x t here) in
      let ey : σ₁.num y ≡ σ.clock = own row σ d in
      leads_turn row (stage (frame x pe (p ∷ es) l ∷ fs) σ) (stage (frame y p.0 (row y) σ.clock ∷ frame x pe es l ∷ fs) (enter σ y)) (stage (frame x pe [] l' ∷ fs) σ') (rw (ne_eqb p.0 pe q, t))
      (leads_on row a.0 _ _ _ a.1
      (leads_turn row (stage (frame y p.0 [] l₁ ∷ frame x pe es l ∷ fs) σ₁) (stage (frame x pe es (min l l₁) ∷ fs) (leave x pe p σ l₁ σ₁)) (stage (frame x pe [] l' ∷ fs) σ') (rw (ex, ey))
      (ran r (kept row d x k) fs)))

pub loop_law : LoopLaw
loop_law row N M g r h σ t =
    let d = explored row N M g N r M σ t h (left_most σ.seen N) in
    let a = ran row d (add_same σ.seen r) [] in
    leads_on row a.0 _ _ _ a.1 (1, refl)

-- a measure that each turn of a stack that is not empty lowers, and the bound on its depth
abbrev pub size : List Frame → ℕ
size [] = 0
size (f ∷ fs) = 1 + length f.rest + size fs
