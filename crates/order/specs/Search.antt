-- A search over lent memory: what the memory means, and what holds between two turns.
use Rattle.std.specs.Prelude.{◌≡◌, ℕ, suc, ◌+◌, ◌-◌, ◌<◌, ◌≤◌, Bool, true, false, cond, ◌⊎◌, List, [], ◌∷◌, length, ◌==◌, slice_index, slice_set}
use Rattle.graph.specs.declared.Graph.{Ghosts as GraphGhosts}
use Rattle.marks.specs.declared.VisitMap.{Ghosts as MapGhosts}
use Rattle.model.specs.Model.{Model}
use Rattle.model.specs.Paths.{In}
use Rattle.model.specs.Sets.{Set, add}
use Rattle.theory.specs.Search.{Rows}
use Rattle.theory.specs.Walk.{pushed, left}
use Rattle.theory.specs.Order.{member, Forward, first_loop, or_else}
use Rattle.theory.specs.Loops.{discovered, Tracked, tracks, between}
use Rattle.theory.specs.Models.{rows_of, upto, node_list, write_order}
use Rattle.theory.specs.Memory.{down}
use Rattle.workspace.specs.Refusals.{room}
use Rattle.order.specs.declared.search.Search.{Search}

-- how many were finished when x was, with x; 0 for one that is not finished
abbrev pub rank : List ℕ → ℕ → ℕ
rank [] x = 0
rank (y ∷ ys) x = cond (x == y) (suc (length ys)) (rank ys x)

-- every marked one of these has a rank
abbrev pub Quiet : Set → List ℕ → List ℕ → Type 0
Quiet s ranks ys = (y : ℕ) → In y ys → s y ≡ true → 0 < slice_index ranks y

-- each edge of an open node on the stack leads to a finished node, or to one that stands above it
abbrev pub Held : Rows → Set → List ℕ → List ℕ → List ℕ → Type 0
Held row m out above [] = Unit {0}
Held row m out above (x ∷ st) = (m x ≡ true → member x out ≡ false → (y : ℕ) → In y (row x) → In y out ⊎ In y above) × Held row m out (x ∷ above) st

-- so far no entry led back to an open node
pub record Onward (row : Rows) (f : Tracked) : Type 0 where
  pub forward : Forward row f.order
  pub held : Held row f.seen f.order [] f.stack

-- the search with one node alone on the stack
abbrev pub alone : ℕ → Tracked → Tracked
alone a f = record { seen = f.seen; stack = a ∷ []; order = f.order; looped = f.looped }

module _ {G M : Type 0} {graphs : GraphGhosts G} {maps : MapGhosts M} where
  -- the graph that is searched
  abbrev pub graph_of : Search G M graphs maps → Model
  graph_of s = graphs.model s.graph.now

  abbrev pub rows : Search G M graphs maps → Rows
  rows s = rows_of (graph_of s)

  abbrev pub seen : Search G M graphs maps → Set
  seen s = maps.marked s.marks.now

  -- the search's state: the marks, the stack, and the finished nodes, the latest first
  abbrev pub flat : Search G M graphs maps → Tracked
  flat s = record { seen = seen s; stack = down s.stack.now s.depth; order = down s.list.now s.count; looped = s.looped }

  -- the same graph, and the same marks, of the same capacity
  pub record Same (s t : Search G M graphs maps) : Type 0 where
    pub graph : t.graph ≡ s.graph
    pub marks : t.marks.ghost_name ≡ s.marks.ghost_name
    pub limit : maps.limit t.marks.now ≡ maps.limit s.marks.now

  -- all but the stack and what is told of entries is as it was
  pub record Kept (s t : Search G M graphs maps) : Type 0 where
    pub graph : t.graph ≡ s.graph
    pub marks : t.marks ≡ s.marks
    pub ranks : t.ranks.now ≡ s.ranks.now
    pub list : t.list.now ≡ s.list.now
    pub count : t.count ≡ s.count

  -- x was met for the first time: it is marked, and its unmarked far nodes are pushed
  pub record Entered (x : ℕ) (s t : Search G M graphs maps) : Type 0 where
    pub same : Same s t
    pub marked : seen t ≡ add (seen s) x
    pub ranks : t.ranks.now ≡ s.ranks.now
    pub list : t.list.now ≡ s.list.now
    pub count : t.count ≡ s.count
    pub pushed_on : down t.stack.now t.depth ≡ pushed (seen t) (rows s x) (down s.stack.now s.depth)
    pub calm : t.back ≡ false → (s.back ≡ false) × Quiet (seen t) s.ranks.now (rows s x)
    pub loops : t.looped ≡ or_else s.looped (first_loop (rows s) (x ∷ []))

  -- x was met again: it is taken off, and finished unless it was
  pub record Left (x : ℕ) (s t : Search G M graphs maps) : Type 0 where
    pub same : Same s t
    pub marks : t.marks ≡ s.marks
    pub stack : t.stack.now ≡ s.stack.now
    pub depth : t.depth ≡ s.depth - 1
    pub ranks : t.ranks.now ≡ cond (slice_index s.ranks.now x == 0) (slice_set s.ranks.now x (s.count + 1)) s.ranks.now
    pub list : t.list.now ≡ cond (slice_index s.ranks.now x == 0) (slice_set s.list.now s.count x) s.list.now
    pub count : t.count ≡ cond (slice_index s.ranks.now x == 0) (s.count + 1) s.count
    pub back : t.back ≡ s.back
    pub looped : t.looped ≡ s.looped

  -- what holds between two turns
  pub record Ready (s : Search G M graphs maps) : Type 0 where
    pub roomy : s.depth + left (λ y. length (rows s y)) (seen s) (graph_of s).nodes ≤ room (graph_of s).nodes (graph_of s).edges
    pub known : (x : ℕ) → In x (down s.stack.now s.depth) → x < (graph_of s).nodes
    pub ranked : (x : ℕ) → x < (graph_of s).nodes → slice_index s.ranks.now x ≡ rank (down s.list.now s.count) x
    pub counted : s.count + left (λ _. 1) (λ y. member y (down s.list.now s.count)) (graph_of s).nodes ≡ (graph_of s).nodes
    pub onward : s.back ≡ false → Onward (rows s) (flat s)

  -- some number of turns leads from one state to the other
  pub record Leads (s t : Search G M graphs maps) : Type 0 where
    pub many : ℕ
    pub gives : tracks (rows s) many (flat s) ≡ flat t
    pub same : Same s t

  -- between two nodes: those below i are done, and the stack is empty
  pub record Between (i : ℕ) (s : Search G M graphs maps) : Type 0 where
    pub ready : Ready s
    pub reached : flat s ≡ between (rows s) (graph_of s).nodes (upto (graph_of s).present i) []
    pub still : s.depth ≡ 0

  -- the search of the whole graph: its order, its first self-loop, and if no entry led back, every edge runs forward
  pub record Searched (s : Search G M graphs maps) : Type 0 where
    pub order : down s.list.now s.count ≡ write_order (graph_of s)
    pub count : s.count ≡ length (write_order (graph_of s))
    pub few : s.count ≤ (graph_of s).nodes
    pub looped : s.looped ≡ first_loop (rows s) (discovered (rows s) (graph_of s).nodes (node_list (graph_of s)))
    pub forward : s.back ≡ false → Forward (rows s) (write_order (graph_of s))

  -- turns from a start led to a state that has b marked, or not and then with an empty stack
  pub record Sought (s : Search G M graphs maps) (b : ℕ) (r : Bool) (t : Search G M graphs maps) : Type 0 where
    pub leads : Leads s t
    pub seen_is : seen t b ≡ r
    pub over : r ≡ false → t.depth ≡ 0
