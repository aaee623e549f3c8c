-- Searches over what a graph means: its rows as far nodes, its nodes ascending, its write order, and paths between two nodes.
use Rattle.std.specs.Prelude.{◌≡◌, ℕ, zero, suc, Bool, true, cond, List, [], ◌∷◌, ◌++◌, Some, None, Option, ◌≢◌}
use Rattle.model.specs.declared.Direction.TheVariants.{Outgoing, Incoming}
use Rattle.model.specs.Model.{Model, Lawful, Entry}
use Rattle.model.specs.Paths.{Reaches, CycleAt, Topological}
use Rattle.model.specs.Sets.{Set}
use Rattle.theory.specs.Search.{Rows}
use Rattle.theory.specs.Order.{searched, order, named}

-- the far nodes of a row
abbrev pub fars : List Entry → List ℕ
fars [] = []
fars (x ∷ xs) = x.2 ∷ fars xs

-- the far nodes of the out rows
abbrev pub rows_of : Model → Rows
rows_of g a = fars (g.row Outgoing a)

-- the far nodes of the in rows
abbrev pub back_rows_of : Model → Rows
back_rows_of g a = fars (g.row Incoming a)

-- the numbers below n that are in the set, ascending
abbrev pub upto : Set → ℕ → List ℕ
upto s zero = []
upto s (suc n) = cond (s n) (upto s n ++ n ∷ []) (upto s n)

-- the present nodes, ascending
abbrev pub node_list : Model → List ℕ
node_list g = upto g.present g.nodes

-- the finishing order of the depth-first search over all present nodes, ascending, each row from its last entry to its first; reversed
abbrev pub write_order : Model → List ℕ
write_order g = order (rows_of g) g.nodes (node_list g)

-- the node that answers for a cycle
abbrev pub cycle_node : Model → Option ℕ
cycle_node g = named (rows_of g) (back_rows_of g) g.nodes (node_list g)

-- whether the search from a discovers b
abbrev pub joined : Model → ℕ → ℕ → Bool
joined g a b = (searched (rows_of g) g.nodes (a ∷ [])).seen b

-- What these are, in the words of paths and cycles.

pub record OrderLaws (g : Model) : Type 0 where
  -- no node is named: the order lists each present node once, and every edge runs forward
  pub valid : cycle_node g ≡ None → Topological g (write_order g)
  -- the node that is named is on a cycle
  pub on_cycle : (a : ℕ) → cycle_node g ≡ Some a → CycleAt g a
  -- so a node is named exactly when there is a cycle
  pub told : (a : ℕ) → CycleAt g a → cycle_node g ≢ None

abbrev pub OrdersLaw : Type 0
OrdersLaw = (g : Model) → Lawful g → OrderLaws g

-- the search discovers exactly what a path leads to
pub record PathLaws (g : Model) (a b : ℕ) : Type 0 where
  pub sound : joined g a b ≡ true → Reaches g a b
  pub whole : Reaches g a b → joined g a b ≡ true

abbrev pub PathsLaw : Type 0
PathsLaw = (g : Model) → Lawful g → (a b : ℕ) → g.present a ≡ true → PathLaws g a b
