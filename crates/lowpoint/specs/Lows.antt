-- Bridges of a two-way graph, and the low-point search. Assumes nothing.
use Rattle.std.specs.Prelude.{◌≡◌, ℕ, zero, suc, ◌+◌, ◌<◌, ◌≤◌, min, false, cond, ◌⊎◌, List, [], ◌∷◌, ◌==◌, ◌≢◌, nat_le}
use Rattle.model.specs.Sets.{Set, nothing, add}
use Rattle.model.specs.Paths.{In, Step}

-- the steps that each node's row offers, in row order
abbrev pub Hops : Type 0
Hops = ℕ → List Step

abbrev pub At : ℕ → ℕ → List Step → Type 0
At e y [] = ⊥
At e y (p ∷ ps) = ((e ≡ p.0) × (y ≡ p.1)) ⊎ At e y ps

pub record BothWays (row : Hops) (N M : ℕ) : Type 0 where
  pub back : (e a b : ℕ) → At e b (row a) → At e a (row b)
  pub ends : (e a b c d : ℕ) → At e b (row a) → At e d (row c) → ((a ≡ c) × (b ≡ d)) ⊎ ((a ≡ d) × (b ≡ c))
  pub node : (e a b : ℕ) → At e b (row a) → b < N
  pub edge : (e a b : ℕ) → At e b (row a) → e < M

-- a path from a that does not use the edge e
pub data Past (row : Hops) (e a : ℕ) : ℕ → Type 0 where
  stay : Past row e a a
  hop : {f x y : ℕ} → Past row e a x → At f y (row x) → (f ≢ e) → Past row e a y

-- its removal parts its ends
abbrev pub RowBridge : Hops → ℕ → Type 0
RowBridge row e = (a b : ℕ) → At e b (row a) → Past row e a b → ⊥

-- a node left: the edge down to it, the node above, itself, the edge by which the node above was entered,
-- the numbers of both, and its low point
pub record TreeEdge : Type 0 where
  pub edge : ℕ
  pub near : ℕ
  pub far : ℕ
  pub above : ℕ
  pub top : ℕ
  pub num : ℕ
  pub low : ℕ

-- the search: marks, numbers in the order of discovery, how many are numbered, and the nodes left, the latest first
pub record Search : Type 0 where
  pub seen : Set
  pub num : ℕ → ℕ
  pub clock : ℕ
  pub found : List TreeEdge

abbrev pub put : (ℕ → ℕ) → ℕ → ℕ → ℕ → ℕ
put f y k z = cond (z == y) k (f z)

abbrev pub enter : Search → ℕ → Search
enter σ y = record { seen = add σ.seen y; num = put σ.num y σ.clock; clock = suc σ.clock; found = σ.found }

-- from x, entered by pe, the entry p led down in σ, and back in σ₁ with low point l
abbrev pub leave : ℕ → ℕ → Step → Search → ℕ → Search → Search
leave x pe p σ l σ₁ =
    record {
      seen = σ₁.seen;
      num = σ₁.num;
      clock = σ₁.clock;
      found = record { edge = p.0; near = x; far = p.1; above = pe; top = σ.num x; num = σ.clock; low = l } ∷ σ₁.found;
    }

-- a leg's edge is a bridge if none in its subtree saw an earlier node
abbrev pub bridged : List TreeEdge → List ℕ
bridged [] = []
bridged (g ∷ gs) = cond (g.low == g.num) (g.edge ∷ bridged gs) (bridged gs)

pub record Low : Type 0 where
  pub after : Search
  pub low : ℕ

-- the entries of a node that was entered by the edge pe, in row order
abbrev pub scan : (ℕ → ℕ → Search → Low) → ℕ → ℕ → List Step → Search → ℕ → Low
scan child x pe [] σ l = record { after = σ; low = l }
scan child x pe (p ∷ es) σ l =
    let r = child p.1 p.0 σ in
    let s = scan child x pe es (leave x pe p σ r.low r.after) (min l r.low) in
    let t = scan child x pe es σ (min l (σ.num p.1)) in
    let u = scan child x pe es σ l in
    cond (p.0 == pe) u (cond (σ.seen p.1) t s)

abbrev pub explore : Hops → ℕ → ℕ → ℕ → Search → Low
explore row zero y e σ = record { after = σ; low = σ.clock }
explore row (suc k) y e σ = scan (explore row k) y e (row y) (enter σ y) σ.clock

-- each unmarked node of the list is a root; no edge has the number M
abbrev pub roots : Hops → ℕ → ℕ → List ℕ → Search → Search
roots row N M [] σ = σ
roots row N M (r ∷ rs) σ = let τ = roots row N M rs (explore row N r M σ).after in let υ = roots row N M rs σ in cond (σ.seen r) υ τ

abbrev pub blank : Search
blank = record { seen = nothing; num = λ _. 0; clock = 1; found = [] }

abbrev pub bridges : Hops → ℕ → ℕ → List ℕ → List ℕ
bridges row N M nodes = bridged (roots row N M nodes blank).found

pub record FoundBridges (row : Hops) (N M : ℕ) (nodes : List ℕ) : Type 0 where
  pub sound : (e : ℕ) → In e (bridges row N M nodes) → RowBridge row e
  pub whole : (e a b : ℕ) → At e b (row a) → RowBridge row e → In e (bridges row N M nodes)

abbrev pub BridgeLaw : Type 0
BridgeLaw =
    (row : Hops) (N M : ℕ) (nodes : List ℕ) → BothWays row N M → ((y : ℕ) → In y nodes → y < N) →
    ((e a b : ℕ) → At e b (row a) → In a nodes) → FoundBridges row N M nodes

-- a path
pub data Trail (row : Hops) (a : ℕ) : ℕ → Type 0 where
  begin : Trail row a a
  onto : {x y : ℕ} (f : ℕ) → Trail row a x → At f y (row x) → Trail row a y

-- a path that does not touch the node v
pub data Round (row : Hops) (v a : ℕ) : ℕ → Type 0 where
  start : (a ≢ v) → Round row v a a
  step : {x y : ℕ} (f : ℕ) → Round row v a x → At f y (row x) → (y ≢ v) → Round row v a y

-- the node's removal parts two others that a path joins
pub record Parts (row : Hops) (v : ℕ) : Type 0 where
  pub one : ℕ
  pub two : ℕ
  pub one_other : one ≡ v → ⊥
  pub two_other : two ≡ v → ⊥
  pub path : Trail row one two
  pub none : Round row v one two → ⊥

-- a leg from a root counts once; from another node twice, if none in its subtree saw a node earlier than it
abbrev pub score : ℕ → ℕ → List TreeEdge → ℕ
score M v [] = 0
score M v (g ∷ gs) = cond (v == g.near) (cond (g.above == M) 1 (cond (nat_le g.top g.low) 2 0)) 0 + score M v gs

pub record FoundNodes (row : Hops) (N M : ℕ) (nodes : List ℕ) : Type 0 where
  pub sound : (v : ℕ) → 2 ≤ score M v (roots row N M nodes blank).found → Parts row v
  pub whole : (v : ℕ) → Parts row v → 2 ≤ score M v (roots row N M nodes blank).found

abbrev pub NodeLaw : Type 0
NodeLaw =
    (row : Hops) (N M : ℕ) (nodes : List ℕ) → BothWays row N M → ((y : ℕ) → In y nodes → y < N) →
    ((e a b : ℕ) → At e b (row a) → In a nodes) → FoundNodes row N M nodes

-- the loop over a stack of open nodes: each with the edge above, the entries that are left, and its low point
pub record Frame : Type 0 where
  pub node : ℕ
  pub above : ℕ
  pub rest : List Step
  pub low : ℕ

pub record Stage : Type 0 where
  pub frames : List Frame
  pub state : Search

-- the top has no entry left: it is left to the one below
abbrev pub close : Frame → List Frame → Search → Stage
close f [] σ = record { frames = []; state = σ }
close f (g ∷ gs) σ =
    record {
      frames = record { node = g.node; above = g.above; rest = g.rest; low = min g.low f.low } ∷ gs;
      state =
          record {
            seen = σ.seen;
            num = σ.num;
            clock = σ.clock;
            found =
                record { edge = f.above; near = g.node; far = f.node; above = g.above; top = σ.num g.node; num = σ.num f.node; low = f.low } ∷ σ.found;
          };
    }

abbrev pub turn_at : Hops → ℕ → ℕ → List Step → ℕ → List Frame → Search → Stage
turn_at row x pe [] l fs σ = close (record { node = x; above = pe; rest = []; low = l }) fs σ
turn_at row x pe (p ∷ es) l fs σ =
    cond (p.0 == pe)
    (record { frames = record { node = x; above = pe; rest = es; low = l } ∷ fs; state = σ })
    (cond (σ.seen p.1)
    (record { frames = record { node = x; above = pe; rest = es; low = min l (σ.num p.1) } ∷ fs; state = σ })
    (record {
      frames = record { node = p.1; above = p.0; rest = row p.1; low = σ.clock } ∷ record { node = x; above = pe; rest = es; low = l } ∷ fs;
      state = enter σ p.1;
    }))

abbrev pub turn : Hops → List Frame → Search → Stage
turn row [] σ = record { frames = []; state = σ }
turn row (f ∷ fs) σ = turn_at row f.node f.above f.rest f.low fs σ

abbrev pub turns : Hops → ℕ → Stage → Stage
turns row zero b = b
turns row (suc k) b = turns row k (turn row b.frames b.state)

-- the loop from one root does what `explore` does
abbrev pub LoopLaw : Type 0
LoopLaw =
    (row : Hops) (N M : ℕ) → BothWays row N M → (r : ℕ) → r < N → (σ : Search) → σ.seen r ≡ false →
    (k : ℕ) × (turns row k (record { frames = record { node = r; above = M; rest = row r; low = σ.clock } ∷ []; state = enter σ r }) ≡ record { frames = []; state = (explore row N r M σ).after })
