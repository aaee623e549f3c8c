-- Many turns: they add up, each lowers the measure, and those that empty the stack agree. Assumes nothing.
use Rattle.std.proofs.Common.{◌≡◌, ℕ, zero, suc, ◌+◌, ◌-◌, ◌<◌, Bool, true, false, cond, List, [], ◌∷◌, length, get_or, Option, sym, refl, ap, ◌∙◌, subst, arith}
use Rattle.graph.specs.declared.Graph.{Ghosts as GraphGhosts}
use Rattle.marks.specs.declared.VisitMap.{Ghosts as MapGhosts}
use Rattle.model.specs.Model.{Model}
use Rattle.model.specs.Sets.{Set, add}
use Rattle.theory.specs.Search.{Rows}
use Rattle.theory.specs.Walk.{pushed, left}
use Rattle.theory.specs.Order.{member, first_loop, or_else}
use Rattle.theory.specs.Loops.{Tracked, track, one_track, tracks}
use Rattle.theory.specs.Models.{rows_of}
use Rattle.theory.specs.Memory.{down}
use Rattle.theory.proofs.Sets.{add_kept, left_add}
use Rattle.theory.proofs.Memory.{down_more}
use Rattle.theory.proofs.Walks.{pushed_length}
use Rattle.order.specs.declared.search.Search.{Search}
use Rattle.order.specs.Search.{graph_of, rows, flat, Same, Ready, Leads}
use Rattle.order.proofs.Turns.{top_below}

turns_more : (row : Rows) (k : ℕ) (s : Tracked) → tracks row (suc k) s ≡ one_track row (tracks row k s)
turns_more row zero s = refl
turns_more row (suc k) s = turns_more row k (one_track row s)

-- the two ways of a turn
abbrev taken : Set → ℕ → List ℕ → List ℕ → Option ℕ → Tracked
taken m x st out o = record { seen = m; stack = st; order = cond (member x out) out (x ∷ out); looped = o }

abbrev entered : Rows → Set → ℕ → List ℕ → List ℕ → Option ℕ → Tracked
entered row m x st out o = record { seen = add m x; stack = pushed (add m x) (row x) (x ∷ st); order = out; looped = or_else o (first_loop row (x ∷ [])) }

-- the measure: what is on the stack, and one more than the row of each node that is not discovered
abbrev load : Rows → ℕ → Tracked → ℕ
load row N f = length f.stack + left (λ y. 1 + length (row y)) f.seen N

turn_falls : (row : Rows) (N : ℕ) (m : Set) (x : ℕ) (st out : List ℕ) (o : Option ℕ) → x < N → load row N (track row m (x ∷ st) out o) < load row N (record { seen = m; stack = x ∷ st; order = out; looped = o })
turn_falls row N m x st out o h = go (m x) refl
  where
    go : (b : Bool) → m x ≡ b → load row N (cond b (taken m x st out o) (entered row m x st out o)) < length (x ∷ st) + left (λ y. 1 + length (row y)) m N
    go true u = omega arith
    go false u = omega (arith, pushed_length (add m x) (row x) (x ∷ st), left_add (λ y. 1 + length (row y)) m x N h u)

module _ {G M : Type 0} {graphs : GraphGhosts G} {maps : MapGhosts M} where
  pub leads_more : {s t u : Search G M graphs maps} → Leads s t → flat u ≡ one_track (rows t) (flat t) → Same t u → Leads s u
  leads_more {s} {t} l e m =
      let g : rows t ≡ rows s = ap (λ b. rows_of (graphs.model b.now)) l.same.graph in
      record {
        many = suc l.many;
        gives = turns_more (rows s) l.many (flat s) ∙ ap (one_track (rows s)) l.gives ∙ ap (λ row. one_track row (flat t)) (sym g) ∙ sym e;
        same = record { graph = m.graph ∙ l.same.graph; marks = m.marks ∙ l.same.marks; limit = m.limit ∙ l.same.limit };
      }

  -- how much a search may have to do yet
  abbrev pub to_do : Search G M graphs maps → ℕ
  to_do s = load (rows s) (graph_of s).nodes (flat s)

  pub falls : {s : Search G M graphs maps} (t : Search G M graphs maps) → Ready s → 0 < s.depth → flat t ≡ one_track (rows s) (flat s) → t.graph ≡ s.graph → to_do t < to_do s
  falls {s} t r h e ge =
      let row = rows s in
      let N = (graph_of s).nodes in
      let x = get_or s.stack.now (s.depth - 1) 0 in
      let out = down s.list.now s.count in
      let under = down s.stack.now (s.depth - 1) in
      let more : down s.stack.now s.depth ≡ x ∷ under = down_more s.stack.now s.depth h in
      let F : List ℕ → Tracked = λ st. record { seen = (flat s).seen; stack = st; order = out; looped = s.looped } in
      let f : load row N (one_track row (F (x ∷ under))) < load row N (F (x ∷ under)) = turn_falls row N (flat s).seen x under out s.looped (top_below r h) in
      let P : List ℕ → Type 0 = λ st. load row N (one_track row (F st)) < load row N (F st) in
      let Q : Tracked → Type 0 = λ v. load row N v < load row N (flat s) in
      let R : Model → Type 0 = λ g. load (rows_of g) g.nodes (flat t) < load row N (flat s) in
      subst R (sym (ap (λ b. graphs.model b.now) ge)) (subst Q (sym e) (subst P (sym more) f))

-- a search whose stack is empty stays as it is
idle : (row : Rows) (s : Tracked) → s.stack ≡ [] → one_track row s ≡ s
idle row s e =
    let F : List ℕ → Tracked = λ st. record { seen = s.seen; stack = st; order = s.order; looped = s.looped } in
    ap (λ st. track row s.seen st s.order s.looped) e ∙ sym (ap F e)

stays : (row : Rows) (k : ℕ) (s : Tracked) → s.stack ≡ [] → tracks row k s ≡ s
stays row zero s e = refl
stays row (suc k) s e = ap (tracks row k) (idle row s e) ∙ stays row k s e

pub same_end : (row : Rows) (j k : ℕ) (s : Tracked) → (tracks row j s).stack ≡ [] → (tracks row k s).stack ≡ [] → tracks row j s ≡ tracks row k s
same_end row zero k s e f = sym (stays row k s e)
same_end row (suc j) zero s e f = stays row (suc j) s f
same_end row (suc j) (suc k) s e f = same_end row j k (one_track row s) e f

-- what is marked stays marked

seen_one : (row : Rows) (m : Set) (st out : List ℕ) (o : Option ℕ) (y : ℕ) → m y ≡ true → (track row m st out o).seen y ≡ true
seen_one row m [] out o y k = k
seen_one row m (x ∷ st) out o y k = go (m x)
  where
    go : (b : Bool) → (cond b (taken m x st out o) (entered row m x st out o)).seen y ≡ true
    go true = k
    go false = add_kept m x y k

seen_kept : (row : Rows) (k : ℕ) (s : Tracked) (y : ℕ) → s.seen y ≡ true → (tracks row k s).seen y ≡ true
seen_kept row zero s y e = e
seen_kept row (suc k) s y e = seen_kept row k (one_track row s) y (seen_one row s.seen s.stack s.order s.looped y e)

-- what is marked on the way is marked at the end
pub seen_end : (row : Rows) (j k : ℕ) (s : Tracked) (y : ℕ) → (tracks row k s).stack ≡ [] → (tracks row j s).seen y ≡ true → (tracks row k s).seen y ≡ true
seen_end row zero k s y f e = seen_kept row k s y e
seen_end row (suc j) zero s y f e = let F : Tracked → Bool = λ t. t.seen y in ap F (sym (stays row (suc j) s f)) ∙ e
seen_end row (suc j) (suc k) s y f e = seen_end row j k (one_track row s) y f e
