-- What a search is to the low-point laws: its lent memory as one value, and what it leaves alone.
use Rattle.std.specs.Prelude.{◌≡◌, ℕ, ◌+◌, ◌<◌, ◌≤◌, Some, None, Option}
use Rattle.model.specs.Model.{Model}
use Rattle.lowpoint.specs.Finds.{no_edge}
use Rattle.lowpoint.specs.Steps.{Memory}
use Rattle.graph.specs.declared.Graph as graph
use Rattle.marks.specs.declared.VisitMap as marks
use Rattle.cuts.specs.declared.search.Search.{Search}

abbrev pub model : {G M : Type 0} {g : graph.Ghosts G} {k : marks.Ghosts M} → Search G M g k → Model
model {g = g} s = g.model s.graph.now

abbrev pub memory : {G M : Type 0} {g : graph.Ghosts G} {k : marks.Ghosts M} → Search G M g k → Memory
memory {k = k} s =
    record {
      stack = s.stack.now;
      depth = s.depth;
      numbers = s.numbers.now;
      lows = s.lows.now;
      arrivals = s.arrivals.now;
      cursors = s.cursors.now;
      clock = s.clock;
      branched = s.branched;
      marks = k.marked s.marks.now;
    }

-- the graph, the caller's arrivals and marks, and the limit of the marks stay
pub record Keeps {G M : Type 0} {g : graph.Ghosts G} {k : marks.Ghosts M} (a b : Search G M g k) : Type 0 where
  pub graph : model b ≡ model a
  pub arrivals : b.arrivals.ghost_name ≡ a.arrivals.ghost_name
  pub marks : b.marks.ghost_name ≡ a.marks.ghost_name
  pub limit : k.limit b.marks.now ≡ k.limit a.marks.now

-- a node that can be entered, with room for one more
pub record Enterable {G M : Type 0} {g : graph.Ghosts G} {k : marks.Ghosts M} (s : Search G M g k) (y : ℕ) : Type 0 where
  pub below : y < (model s).nodes
  pub depth : s.depth < (model s).nodes
  pub clock : s.clock ≤ (model s).nodes + 1

-- the number that stands in memory for the edge by which a node was entered
abbrev pub edge_number : Option ℕ → ℕ
edge_number None = no_edge
edge_number (Some e) = e
