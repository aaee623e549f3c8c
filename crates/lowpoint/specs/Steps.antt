-- The low-point search over lent memory: its steps, and what the memory shows between two steps.
use Rattle.std.specs.Prelude.{◌≡◌, ℕ, ◌+◌, ◌-◌, ◌*◌, ◌<◌, min, Bool, true, false, cond, not, List, [], ◌∷◌, length, Some, None, Option, ◌==◌, ◌≢◌, nat_le, nat_lt, slice_index, slice_index_or, slice_set}
use Rattle.model.specs.declared.Direction.TheVariants.{Outgoing}
use Rattle.model.specs.Model.{Model, Lawful, Entry, from}
use Rattle.model.specs.Paths.{In, Distinct}
use Rattle.model.specs.Sets.{Set, nothing, add}
use Rattle.theory.specs.Walk.{left}
use Rattle.lowpoint.specs.Cuts.{is_bridge, is_cut}
use Rattle.lowpoint.specs.Lows.{TreeEdge, Frame, Stage, score, turns}
use Rattle.lowpoint.specs.Finds.{hops, hops_of, no_edge, arrived, searched, entered_by}

pub record Memory : Type 0 where
  -- the open nodes, the latest last, and how many they are
  pub stack : List ℕ
  pub depth : ℕ
  -- of each node its discovery number, 0 before; its low point, the edge by which it was entered, and its next place
  pub numbers : List ℕ
  pub lows : List ℕ
  pub arrivals : List ℕ
  pub cursors : List ℕ
  -- the next discovery number, and whether the root has a child that is closed
  pub clock : ℕ
  pub branched : Bool
  -- the cut nodes
  pub marks : Set

-- the node y is entered by the edge e
abbrev pub entered : Memory → ℕ → ℕ → Memory
entered a y e =
    record {
      stack = slice_set a.stack a.depth y;
      depth = a.depth + 1;
      numbers = slice_set a.numbers y a.clock;
      lows = slice_set a.lows y a.clock;
      arrivals = slice_set a.arrivals y e;
      cursors = slice_set a.cursors y 0;
      clock = a.clock + 1;
      branched = a.branched;
      marks = a.marks;
    }

-- the low point after an entry of a node that was entered by the edge pe, or nothing where the entry leads to a new node
abbrev pub met : List ℕ → ℕ → ℕ → ℕ → ℕ → Option ℕ
met numbers pe low e y = cond (e == pe) (Some low) (cond (slice_index numbers y == 0) None (Some (min low (slice_index numbers y))))

-- the low point after the entries of a node that was entered by the edge pe, and the first of them that leads to a new node
abbrev pub Look : Type 0
Look = ℕ × Option Entry

abbrev pub looked : List ℕ → ℕ → ℕ → List Entry → Look
looked numbers pe low [] = (low, None)
looked numbers pe low (x ∷ xs) =
    cond (x.1 == pe) (looked numbers pe low xs)
    (cond (slice_index numbers x.2 == 0) (low, Some x) (looked numbers pe (min low (slice_index numbers x.2)) xs))

-- the list with a smaller value at i, where v is smaller
abbrev pub lowered : List ℕ → ℕ → ℕ → List ℕ
lowered xs i v = cond (nat_lt v (slice_index xs i)) (slice_set xs i v) xs

-- the open node p gets the low point of a child that is closed
abbrev pub credited : Memory → ℕ → ℕ → Memory
credited a p low =
    record {
      stack = a.stack;
      depth = a.depth;
      numbers = a.numbers;
      lows = lowered a.lows p low;
      arrivals = a.arrivals;
      cursors = a.cursors;
      clock = a.clock;
      branched = cond (a.depth == 1) true a.branched;
      marks =
          cond (a.depth == 1) (cond a.branched (add a.marks p) a.marks)
          (cond (nat_le (slice_index a.numbers p) low) (add a.marks p) a.marks);
    }

-- the latest open node x is closed: the edge to it is kept if it is a bridge
abbrev pub popped : Memory → ℕ → ℕ → Memory
popped a x low =
    record {
      stack = a.stack;
      depth = a.depth - 1;
      numbers = a.numbers;
      lows = a.lows;
      arrivals = cond (low == slice_index a.numbers x) a.arrivals (slice_set a.arrivals x no_edge);
      cursors = a.cursors;
      clock = a.clock;
      branched = a.branched;
      marks = a.marks;
    }

abbrev pub closed : Memory → ℕ → ℕ → Memory
closed a x low = cond (a.depth == 1) (popped a x low) (credited (popped a x low) (slice_index a.stack (a.depth - 2)) low)

-- the low point and the next place of x
abbrev pub noted : Memory → ℕ → ℕ → ℕ → Memory
noted a x low place =
    record {
      stack = a.stack;
      depth = a.depth;
      numbers = a.numbers;
      lows = slice_set a.lows x low;
      arrivals = a.arrivals;
      cursors = slice_set a.cursors x place;
      clock = a.clock;
      branched = a.branched;
      marks = a.marks;
    }

abbrev pub went : Memory → ℕ → Look → Memory
went a x (low, None) = closed a x low
went a x (low, Some q) = entered (noted a x low (q.0 + 1)) q.2 q.1

abbrev pub top : Memory → ℕ
top a = slice_index a.stack (a.depth - 1)

-- from the latest open node to a new node, or back
abbrev pub stepped : Model → Memory → Memory
stepped m a =
    let x = top a in
    went a x (looked a.numbers (slice_index a.arrivals x) (slice_index a.lows x) (from (m.row Outgoing x) (slice_index a.cursors x)))

-- What memory shows.

-- the open node at place k
pub record Held (m : Model) (a : Memory) (k : ℕ) (f : Frame) : Type 0 where
  pub node_is : slice_index_or a.stack k 0 ≡ f.node
  pub below : f.node < m.nodes
  pub low_is : slice_index_or a.lows f.node 0 ≡ f.low
  pub above_is : slice_index_or a.arrivals f.node 0 ≡ f.above
  pub rest_is : f.rest ≡ hops (from (m.row Outgoing f.node) (slice_index a.cursors f.node))

abbrev pub Framed : Model → Memory → List Frame → Type 0
Framed m a [] = Unit {0}
Framed m a (f ∷ fs) = Held m a (length fs) f × Framed m a fs

abbrev pub opens : List Frame → List ℕ
opens [] = []
opens (f ∷ fs) = f.node ∷ opens fs

-- the first open node is a root, and the others are not
abbrev pub Rooted : Bool → List TreeEdge → List Frame → Type 0
Rooted b gs [] = Unit {0}
Rooted b gs (f ∷ []) = (f.above ≡ no_edge) × ((arrived gs f.node ≡ no_edge) × (b ≡ nat_le 1 (score no_edge f.node gs)))
Rooted b gs (f ∷ h ∷ fs) = (f.above ≢ no_edge) × Rooted b gs (h ∷ fs)

pub record Roomy (m : Model) (a : Memory) : Type 0 where
  pub stack : m.nodes < length a.stack
  pub numbers : length a.numbers ≡ m.nodes
  pub lows : length a.lows ≡ m.nodes
  pub arrivals : length a.arrivals ≡ m.nodes
  pub cursors : length a.cursors ≡ m.nodes

pub record Shows (m : Model) (a : Memory) (b : Stage) : Type 0 where
  pub roomy : Roomy m a
  pub depth_is : a.depth ≡ length b.frames
  pub framed : Framed m a b.frames
  pub once : Distinct (opens b.frames)
  pub opens_seen : (z : ℕ) → In z (opens b.frames) → b.state.seen z ≡ true
  pub rooted : Rooted a.branched b.state.found b.frames
  pub numbers_are : (z : ℕ) → slice_index a.numbers z ≡ b.state.num z
  pub seen_is : (z : ℕ) → b.state.seen z ≡ not (b.state.num z == 0)
  pub clock_is : a.clock ≡ b.state.clock
  pub counted : a.clock + left (λ _. 1) b.state.seen m.nodes ≡ m.nodes + 1
  pub few : a.depth < a.clock
  pub arrivals_are : (z : ℕ) → b.state.seen z ≡ true → (In z (opens b.frames) → ⊥) → slice_index a.arrivals z ≡ arrived b.state.found z
  pub marks_are : (z : ℕ) → a.marks z ≡ nat_le 2 (score no_edge z b.state.found)

-- the memory shows the search at some stage
pub record Ready (m : Model) (a : Memory) : Type 0 where
  pub stage : Stage
  pub shown : Shows m a stage

-- whatever stage was shown before, one that the loop comes to is shown after
abbrev pub LeadsTo : Model → Memory → Memory → Type 0
LeadsTo m a a' = (b : Stage) → Shows m a b → (k : ℕ) × Shows m a' (turns (hops_of m) k b)

-- what is left of the search: each step lowers it
abbrev pub weight : Model → Memory → ℕ
weight m a = a.depth + 2 * (m.nodes + 1 - a.clock)

pub record Stepped (m : Model) (a a' : Memory) (b : Stage) : Type 0 where
  pub many : ℕ
  pub shows : Shows m a' (turns (hops_of m) many b)
  pub falls : weight m a' < weight m a

-- a step over memory is some turns of the loop
abbrev pub StepLaw : Type 0
StepLaw = (m : Model) → Lawful m → (a : Memory) (b : Stage) → Shows m a b → 0 < a.depth → Stepped m a (stepped m a) b

-- The search from every number in turn.

-- enough memory, no discovery numbers, no marks
pub record Clean (m : Model) (a : Memory) : Type 0 where
  pub roomy : Roomy m a
  pub depth : a.depth ≡ 0
  pub clock : a.clock ≡ 1
  pub numbers : (z : ℕ) → slice_index a.numbers z ≡ 0
  pub marks : a.marks ≡ nothing

-- every number below i is discovered, and no node is open
abbrev pub Between : Model → ℕ → Memory → Type 0
Between m i a = Shows m a (record { frames = []; state = searched m i })

-- a new root
abbrev pub rooting : Memory → ℕ → Memory
rooting a y =
    entered
    (record {
      stack = a.stack;
      depth = a.depth;
      numbers = a.numbers;
      lows = a.lows;
      arrivals = a.arrivals;
      cursors = a.cursors;
      clock = a.clock;
      branched = false;
      marks = a.marks;
    })
    y
    no_edge

-- what the search leaves: the bridges by which nodes were entered, and the marked cut nodes
pub record Searched (m : Model) (arrivals : List ℕ) (marks : Set) : Type 0 where
  pub bridges : (e : ℕ) → entered_by (λ z. slice_index arrivals z) (m.ends e) e ≡ is_bridge m e
  pub cuts : (v : ℕ) → marks v ≡ is_cut m v
