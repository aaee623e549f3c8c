-- Graphs by their edges.
use Rattle.std.specs.Prelude.{ℕ, zero, suc, cond, List, [], ◌∷◌, length, Some, None, nat_lt}
use Rattle.model.specs.declared.Direction.{Direction}
use Rattle.model.specs.declared.Kind.{Kind}
use Rattle.model.specs.declared.Kind.TheVariants.{OneWay, TwoWay}
use Rattle.model.specs.Model.{Model, Entry, Ends, due, other}

abbrev pub ends_at : List (ℕ × ℕ) → ℕ → Ends
ends_at [] e = None
ends_at (x ∷ xs) zero = Some x
ends_at (x ∷ xs) (suc e) = ends_at xs e

-- the entries of a's row for the edges from number e on, each at the place of its number
abbrev pub entries : Kind → Direction → ℕ → List (ℕ × ℕ) → ℕ → List Entry
entries k d e [] a = []
entries k d e (x ∷ xs) a = cond (due k d (Some x) a) ((e, e, other x a) ∷ entries k d (suc e) xs a) (entries k d (suc e) xs a)

-- the graph with n nodes, all present, and these edges
abbrev pub graph_of : Kind → ℕ → List (ℕ × ℕ) → Model
graph_of k n xs =
    record { kind = k; nodes = n; edges = length xs; present = λ a. nat_lt a n; ends = ends_at xs; row = λ d a. entries k d 0 xs a }

abbrev pub one_way : ℕ → List (ℕ × ℕ) → Model
one_way = graph_of OneWay

abbrev pub two_way : ℕ → List (ℕ × ℕ) → Model
two_way = graph_of TwoWay
