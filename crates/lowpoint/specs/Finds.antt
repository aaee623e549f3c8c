-- The low-point search of a graph, and that what it finds are the bridges and the cut nodes.
use Rattle.std.specs.Prelude.{◌≡◌, ℕ, Bool, true, false, cond, ◌||◌, List, [], ◌∷◌, Some, None, ◌==◌, nat_le}
use Rattle.model.specs.declared.Direction.TheVariants.{Outgoing}
use Rattle.model.specs.declared.Kind.TheVariants.{TwoWay}
use Rattle.model.specs.Model.{Model, Entry, Ends, Lawful}
use Rattle.model.specs.Paths.{Step}
use Rattle.theory.specs.Models.{upto}
use Rattle.lowpoint.specs.Cuts.{is_bridge, is_cut}
use Rattle.lowpoint.specs.Lows.{Hops, TreeEdge, Search, roots, blank, score}

-- the steps that a row offers
abbrev pub hops : List Entry → List Step
hops [] = []
hops (x ∷ xs) = (x.1, x.2) ∷ hops xs

abbrev pub hops_of : Model → Hops
hops_of m a = hops (m.row Outgoing a)

-- no edge has this number: it stands above a root
abbrev pub no_edge : ℕ
no_edge = 262144

-- the search from the numbers below n in turn
abbrev pub searched : Model → ℕ → Search
searched m n = roots (hops_of m) m.nodes no_edge (upto (λ _. true) n) blank

-- the bridge by which a node was entered, if it was by one
abbrev pub arrived : List TreeEdge → ℕ → ℕ
arrived [] z = no_edge
arrived (g ∷ gs) z = cond (z == g.far) (cond (g.low == g.num) g.edge no_edge) (arrived gs z)

-- an end of the edge was entered by it
abbrev pub entered_by : (ℕ → ℕ) → Ends → ℕ → Bool
entered_by f None e = false
entered_by f (Some (t, h)) e = f t == e || f h == e

pub record Finds (m : Model) : Type 0 where
  pub bridges : (e : ℕ) → entered_by (arrived (searched m m.nodes).found) (m.ends e) e ≡ is_bridge m e
  pub cuts : (v : ℕ) → nat_le 2 (score no_edge v (searched m m.nodes).found) ≡ is_cut m v

abbrev pub FindsLaw : Type 0
FindsLaw = (m : Model) → Lawful m → m.kind ≡ TwoWay → Finds m
