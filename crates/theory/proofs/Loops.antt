-- The loop law, and what the search discovers. Assumes nothing.
use Rattle.std.proofs.Common.{◌≡◌, ℕ, zero, suc, ◌<◌, Bool, true, false, cond, ◌⊎◌, List, [], ◌∷◌, ◌++◌, reverse, Some, None, Option, sym, refl, ap, ◌∙◌, inl, inr, ⊎_elim, append_assoc, append-nil, arith}
use mathlib.Core.List.{reverse_aux}
use Rattle.std.proofs.lemmas.Bool.Decides.{nat_tests}
use Rattle.std.proofs.lemmas.Bool.{both_ways}
use Rattle.model.specs.Paths.{In}
use Rattle.model.specs.Sets.{Set, nothing, add}
use Rattle.theory.specs.Search.{Rows, Within, Found, visits, visit}
use Rattle.theory.specs.Walk.{pushed}
use Rattle.theory.specs.Order.{Finished, finishes, finish, searched, member, first_loop, or_else, Flat, turn, turns, LoopLaw}
use Rattle.theory.specs.Loops.{discovered, Tracked, track, one_track, tracks, between, TrackLaw, SeenLaw}
use Rattle.theory.proofs.Sets.{add_same, add_kept, left_most}
use Rattle.theory.proofs.Members.{in_member, out_member}
use Rattle.theory.proofs.Search.{Dfs, over as dfs_over, skip as dfs_skip, into as dfs_into, dfs_same, total as dfs_total}
use Rattle.theory.proofs.Orders.{found, dfs_seen, dfs_sound, dfs_whole}
use Rattle.theory.proofs.Finish.{Fin, over, skip, into, total, fin_kept, fin_held, fin_new, fin_seen, fin_open}

-- the ones outside a set
abbrev sift : Set → List ℕ → List ℕ
sift m [] = []
sift m (y ∷ ys) = cond (m y) (sift m ys) (y ∷ sift m ys)

pushed_sift : (m : Set) (ys a st : List ℕ) → pushed m ys (sift m a ++ st) ≡ sift m (reverse_aux ys a) ++ st
pushed_sift m [] a st = refl
pushed_sift m (y ∷ ys) a st = go (m y) (pushed_sift m ys (y ∷ a) st)
  where
    go : (b : Bool) → pushed m ys (cond b (sift m a) (y ∷ sift m a) ++ st) ≡ sift m (reverse_aux ys (y ∷ a)) ++ st → pushed m ys (cond b (sift m a ++ st) (y ∷ (sift m a ++ st))) ≡ sift m (reverse_aux ys (y ∷ a)) ++ st
    go true e = e
    go false e = e

-- the first of two

or_none : (o : Option ℕ) → or_else o None ≡ o
or_none None = refl
or_none (Some j) = refl

or_assoc : (a b c : Option ℕ) → or_else (or_else a b) c ≡ or_else a (or_else b c)
or_assoc None b c = refl
or_assoc (Some j) b c = refl

pub loop_join : (row : Rows) (a b : List ℕ) → first_loop row (a ++ b) ≡ or_else (first_loop row a) (first_loop row b)
loop_join row [] b = refl
loop_join row (x ∷ a) b = go (member x (row x)) (loop_join row a b)
  where
    go : (t : Bool) → first_loop row (a ++ b) ≡ or_else (first_loop row a) (first_loop row b) → cond t (Some x) (first_loop row (a ++ b)) ≡ or_else (cond t (Some x) (first_loop row a)) (first_loop row b)
    go true e = refl
    go false e = e

loop_front : (row : Rows) (x : ℕ) (a : List ℕ) → first_loop row (x ∷ a) ≡ or_else (first_loop row (x ∷ [])) (first_loop row a)
loop_front row x a = loop_join row (x ∷ []) a

abbrev flat : Set → List ℕ → List ℕ → Option ℕ → Tracked
flat m st out o = record { seen = m; stack = st; order = out; looped = o }

abbrev Leads : Rows → Tracked → Tracked → Type 0
Leads row s t = (k : ℕ) × (tracks row k s ≡ t)

leads_on : (row : Rows) (k : ℕ) (s t u : Tracked) → tracks row k s ≡ t → Leads row t u → Leads row s u
leads_on row zero s t u e l = (l.0, rw e l.1)
leads_on row (suc k) s t u e l =
    let r = leads_on row k (one_track row s) t u e l in
    (suc r.0, r.1)

leads_track : (row : Rows) (s t u : Tracked) → one_track row s ≡ t → Leads row t u → Leads row s u
leads_track row s t u e l = (suc l.0, rw e l.1)

module _ (row : Rows) where
  -- what a finishing search discovers, in order
  abbrev news : {xs : List ℕ} {m : Set} {out : List ℕ} {m' : Set} {out' : List ℕ} → Fin row xs m out m' out' → List ℕ
  news over = []
  news (skip u d) = news d
  news (into {x = x} u d e) = x ∷ (news d ++ news e)

  news_dfs : {xs : List ℕ} {m : Set} {out : List ℕ} {m' : Set} {out' : List ℕ} (d : Fin row xs m out m' out') → Dfs row xs m m' (news d)
  news_dfs over = dfs_over
  news_dfs (skip u d) = dfs_skip u (news_dfs d)
  news_dfs (into u d e) = dfs_into u (news_dfs d) (news_dfs e)

  -- the stack holds the listed nodes outside m₀, and each of them that is marked is finished
  sim : {xs : List ℕ} {m : Set} {out : List ℕ} {m' : Set} {out' : List ℕ} (f : Fin row xs m out m' out') → (m₀ : Set) → ((y : ℕ) → m₀ y ≡ true → m y ≡ true) → ((y : ℕ) → In y out → m y ≡ true) → ((y : ℕ) → In y xs → m y ≡ true → (m₀ y ≡ true) ⊎ In y out) → (st : List ℕ) (o : Option ℕ) → Leads row (flat m (sift m₀ xs ++ st) out o) (flat m' st out' (or_else o (first_loop row (news f))))
  sim (over {m = m} {out = out}) m₀ g h c st o = (0, ap (flat m st out) (sym (or_none o)))
  sim (skip {x = x} {xs = xs} {m = m} {out = out} {m' = m'} {out' = out'} u d) m₀ g h c st o = go (m₀ x) refl (sim d m₀ g h (λ y i. c y (inr i)) st o)
    where
      go : (b : Bool) → m₀ x ≡ b → Leads row (flat m (sift m₀ xs ++ st) out o) (flat m' st out' (or_else o (first_loop row (news d)))) → Leads row (flat m (cond b (sift m₀ xs) (x ∷ sift m₀ xs) ++ st) out o) (flat m' st out' (or_else o (first_loop row (news d))))
      go true k l = l
      go false k l =
          let i : In x out = ⊎_elim (λ (j : m₀ x ≡ true). absurd (both_ways (m₀ x) k j)) (λ (j : In x out). j) (c x (inl refl) u) in
          leads_track row (flat m (x ∷ (sift m₀ xs ++ st)) out o) (flat m (sift m₀ xs ++ st) out o) (flat m' st out' (or_else o (first_loop row (news d)))) (rw (u, in_member x out i)) l
  sim (into {x = x} {xs = xs} {m = m} {out = out} {m₁ = m₁} {out₁ = out₁} {m' = m'} {out' = out'} u d e) m₀ g h c st o =
      go (m₀ x) refl
      (λ st. sim d (add m x) (λ y k. k) h₁ (λ y i k. inl k) st o₁)
      (sim e m₀ (λ y k. fin_kept row d y (add_kept m x y (g y k))) h₂ c₂ st o₂)
    where
      o₁ : Option ℕ
      o₁ = or_else o (first_loop row (x ∷ []))

      o₂ : Option ℕ
      o₂ = or_else o₁ (first_loop row (news d))

      joins : or_else o₂ (first_loop row (news e)) ≡ or_else o (first_loop row (x ∷ (news d ++ news e)))
      joins =
          or_assoc o₁ (first_loop row (news d)) (first_loop row (news e))
          ∙ ap (or_else o₁) (sym (loop_join row (news d) (news e)))
          ∙ or_assoc o (first_loop row (x ∷ [])) (first_loop row (news d ++ news e))
          ∙ ap (or_else o) (sym (loop_front row x (news d ++ news e)))

      h₁ : (y : ℕ) → In y out → add m x y ≡ true
      h₁ y i = add_kept m x y (h y i)

      h₂ : (y : ℕ) → In y (x ∷ out₁) → m₁ y ≡ true
      h₂ y (inl q) = rw q (fin_kept row d x (add_same m x))
      h₂ y (inr i) = fin_seen row d h₁ y i

      c₂ : (y : ℕ) → In y xs → m₁ y ≡ true → (m₀ y ≡ true) ⊎ In y (x ∷ out₁)
      c₂ y i k = let a = fin_new row d y k in let b = c y (inr i) in let s = fin_held row d y in grind (arith, nat_tests)

      end : Tracked
      end = flat m' st out' (or_else o (first_loop row (x ∷ (news d ++ news e))))

      go : (b : Bool) → m₀ x ≡ b → ((st : List ℕ) → Leads row (flat (add m x) (sift (add m x) (reverse (row x)) ++ st) out o₁) (flat m₁ st out₁ o₂)) → Leads row (flat m₁ (sift m₀ xs ++ st) (x ∷ out₁) o₂) (flat m' st out' (or_else o₂ (first_loop row (news e)))) → Leads row (flat m (cond b (sift m₀ xs) (x ∷ sift m₀ xs) ++ st) out o) end
      go true k f l = absurd (both_ways (m x) u (g x k))
      go false k f l =
          let r = sift m₀ xs ++ st in
          let a = f (x ∷ r) in
          let last : Leads row (flat m₁ r (x ∷ out₁) o₂) end = (l.0, l.1 ∙ ap (flat m' st out') joins) in
          leads_track row (flat m (x ∷ r) out o) (flat (add m x) (sift (add m x) (reverse (row x)) ++ (x ∷ r)) out o₁) end
          (rw (u, pushed_sift (add m x) (row x) [] (x ∷ r)))
          (leads_on row a.0 _ _ _ a.1
          (leads_track row (flat m₁ (x ∷ r) out₁ o₂) (flat m₁ r (x ∷ out₁) o₂) end
          (rw (fin_kept row d x (add_same m x), out_member x out₁ (fin_open row x u d h)))
          last))

finishes_snoc : (f : ℕ → Finished → Finished) (xs : List ℕ) (x : ℕ) (v : Finished) → finishes f (xs ++ x ∷ []) v ≡ f x (finishes f xs v)
finishes_snoc f [] x v = refl
finishes_snoc f (y ∷ xs) x v = finishes_snoc f xs x (f y v)

visits_snoc : (f : ℕ → Set → Found) (xs : List ℕ) (x : ℕ) (m : Set) → (visits f (xs ++ x ∷ []) m).shown ≡ (visits f xs m).shown ++ (f x (visits f xs m).seen).shown
visits_snoc f [] x m = append-nil (f x m).shown
visits_snoc f (y ∷ xs) x m = ap (λ l. (f y m).shown ++ l) (visits_snoc f xs x (f y m).seen) ∙ sym (append_assoc (f y m).shown (visits f xs (f y m).seen).shown (f x (visits f xs (f y m).seen).seen).shown)

abbrev v₀ : Finished
v₀ = record { seen = nothing; order = [] }

module _ (row : Rows) (N : ℕ) (c : Within row N) where
  one_below : (x : ℕ) → x < N → (y : ℕ) → In y (x ∷ []) → y < N
  one_below x l y = elim [ inl q ↦ rw q l | inr i ↦ elim i [ ] ]

  module _ (nodes : List ℕ) (h : (y : ℕ) → In y nodes → y < N) where
    all_done : Fin row nodes nothing [] (searched row N nodes).seen (searched row N nodes).order
    all_done = total row N N c nodes v₀ (left_most nothing N) h

    -- both searches mark the same
    same_seen : (visits (visit row N) nodes nothing).seen ≡ (searched row N nodes).seen
    same_seen = (dfs_same row (dfs_total row N N c nodes nothing (left_most nothing N) h) (news_dfs row all_done)).0

    module _ (x : ℕ) (l : x < N) where
      one_done : Fin row (x ∷ []) (searched row N nodes).seen (searched row N nodes).order (finish row N x (searched row N nodes)).seen (finish row N x (searched row N nodes)).order
      one_done = total row N N c (x ∷ []) (searched row N nodes) (left_most (searched row N nodes).seen N) (one_below x l)

      news_are : (visit row N x (visits (visit row N) nodes nothing).seen).shown ≡ news row one_done
      news_are =
          ap (λ m. (visit row N x m).shown) same_seen
          ∙ sym (append-nil (visit row N x (searched row N nodes).seen).shown)
          ∙ (dfs_same row (dfs_total row N N c (x ∷ []) (searched row N nodes).seen (left_most (searched row N nodes).seen N) (one_below x l)) (news_dfs row one_done)).1

      found_are : discovered row N (nodes ++ x ∷ []) ≡ discovered row N nodes ++ news row one_done
      found_are = visits_snoc (visit row N) nodes x nothing ∙ ap (λ l. discovered row N nodes ++ l) news_are

      after_one : between row N (nodes ++ x ∷ []) [] ≡ flat (finish row N x (searched row N nodes)).seen [] (finish row N x (searched row N nodes)).order (or_else (first_loop row (discovered row N nodes)) (first_loop row (news row one_done)))
      after_one =
          let F : Finished → Tracked = λ w. flat w.seen [] w.order (first_loop row (discovered row N (nodes ++ x ∷ []))) in
          ap F (finishes_snoc (finish row N) nodes x v₀)
          ∙ ap (flat (finish row N x (searched row N nodes)).seen [] (finish row N x (searched row N nodes)).order) (ap (first_loop row) found_are ∙ loop_join row (discovered row N nodes) (news row one_done))

      goes : (k : ℕ) × (tracks row k (between row N nodes (x ∷ [])) ≡ between row N (nodes ++ x ∷ []) [])
      goes =
          let r =
          sim row one_done nothing
          (λ y k. absurd (both_ways (nothing y) refl k))
          (fin_seen row all_done (λ y i. absurd i))
          (λ y i k. ⊎_elim (λ (k : nothing y ≡ true). absurd (both_ways (nothing y) refl k)) (λ (j : In y (searched row N nodes).order). inr j) (fin_new row all_done y k))
          []
          (first_loop row (discovered row N nodes)) in
          (r.0, r.1 ∙ sym after_one)

-- a discovered node changes nothing

finish_seen : (row : Rows) (k x : ℕ) (v : Finished) → v.seen x ≡ true → finish row k x v ≡ v
finish_seen row zero x v e = refl
finish_seen row (suc k) x v e = rw e

visit_seen : (row : Rows) (k x : ℕ) (m : Set) → m x ≡ true → (visit row k x m).shown ≡ []
visit_seen row zero x m e = refl
visit_seen row (suc k) x m e = rw e

pub between_seen : (row : Rows) (N : ℕ) → Within row N → (nodes : List ℕ) → ((y : ℕ) → In y nodes → y < N) → (x : ℕ) (st : List ℕ) → (searched row N nodes).seen x ≡ true → between row N (nodes ++ x ∷ []) st ≡ between row N nodes st
between_seen row N c nodes h x st e =
    let seen : (visits (visit row N) nodes nothing).seen x ≡ true = ap (λ m. m x) (same_seen row N c nodes h) ∙ e in
    let shown : discovered row N (nodes ++ x ∷ []) ≡ discovered row N nodes =
    visits_snoc (visit row N) nodes x nothing
    ∙ ap (λ l. discovered row N nodes ++ l) (visit_seen row N x (visits (visit row N) nodes nothing).seen seen)
    ∙ append-nil (discovered row N nodes) in
    let F : Finished → Tracked = λ w. flat w.seen st w.order (first_loop row (discovered row N (nodes ++ x ∷ []))) in
    let G : List ℕ → Tracked = λ l. flat (searched row N nodes).seen st (searched row N nodes).order (first_loop row l) in
    ap F (finishes_snoc (finish row N) nodes x v₀ ∙ finish_seen row N x (searched row N nodes) e) ∙ ap G shown

pub track_law : TrackLaw
track_law row N c nodes h x l = goes row N c nodes h x l

-- The same loop with nothing noted.

abbrev plain : Tracked → Flat
plain s = record { seen = s.seen; stack = s.stack; order = s.order }

plain_one : (row : Rows) (m : Set) (st out : List ℕ) (o : Option ℕ) → plain (track row m st out o) ≡ turn row m st out
plain_one row m [] out o = refl
plain_one row m (x ∷ st) out o = go (m x)
  where
    old : Tracked
    old = record { seen = m; stack = st; order = cond (member x out) out (x ∷ out); looped = o }

    new : Tracked
    new = record { seen = add m x; stack = pushed (add m x) (row x) (x ∷ st); order = out; looped = or_else o (first_loop row (x ∷ [])) }

    go : (b : Bool) → plain (cond b old new) ≡ cond b (plain old) (plain new)
    go true = refl
    go false = refl

plain_all : (row : Rows) (k : ℕ) (s : Tracked) → plain (tracks row k s) ≡ turns row k (plain s)
plain_all row zero s = refl
plain_all row (suc k) s = plain_all row k (one_track row s) ∙ ap (turns row k) (plain_one row s.seen s.stack s.order s.looped)

pub loop_law : LoopLaw
loop_law row N c nodes h x l =
    let r = goes row N c nodes h x l in
    (r.0, sym (plain_all row r.0 (between row N nodes (x ∷ []))) ∙ ap plain (r.1 ∙ after_one row N c nodes h x l))

pub seen_law : SeenLaw
seen_law row N c x l y =
    let d = news_dfs row (all_done row N c (x ∷ []) (one_below row N c x l)) in
    (λ k. dfs_sound row d y (found row d y k refl), λ r. dfs_seen row d y (dfs_whole row d r))
