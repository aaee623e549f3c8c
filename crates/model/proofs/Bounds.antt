-- How much all rows of a lawful graph hold together. Assumes nothing.
use Rattle.std.proofs.Common.{◌≡◌, ℕ, ◌<◌, ◌≤◌, List, [], ◌∷◌, length, Some, None, refl, ◌∙◌, arith}
use Rattle.model.specs.declared.Direction.{Direction}
use Rattle.model.specs.declared.Direction.TheVariants.{Outgoing, Incoming}
use Rattle.model.specs.declared.Kind.{Kind}
use Rattle.model.specs.declared.Kind.TheVariants.{OneWay, TwoWay}
use Rattle.model.specs.Model.{Model, Entry, Ends, Lawful, Far, Fars, count_of, due, bit, sum, row_limit}
use Rattle.model.specs.Laws.{RowBound}
use Rattle.model.proofs.Sums.{sum_same, sum_most, sum_none, sum_one, sum_two, sum_swap, sum_once, sum_twice}
use Rattle.model.proofs.Entries.{Below, count_length}

-- in how many rows an edge is due
abbrev most_rows : Kind → ℕ
most_rows OneWay = 1
most_rows TwoWay = 2

due_most : (k : Kind) (d : Direction) (o : Ends) (n : ℕ) → sum (λ a. bit (due k d o a)) n ≤ most_rows k
due_most OneWay d None n = let z = sum_none n in omega arith
due_most TwoWay d None n = let z = sum_none n in omega arith
due_most OneWay Outgoing (Some (t, h)) n = sum_once t n
due_most OneWay Incoming (Some (t, h)) n = sum_once h n
due_most TwoWay Outgoing (Some (t, h)) n = sum_twice t h n
due_most TwoWay Incoming (Some (t, h)) n = sum_twice t h n

sum_limit : (k : Kind) (n : ℕ) → sum (λ _. most_rows k) n ≡ row_limit k n
sum_limit OneWay n = sum_one n
sum_limit TwoWay n = sum_two n

module _ (m : Model) (w : Lawful m) (d : Direction) where
  far_below : (a b e : ℕ) (o : Ends) → m.ends e ≡ o → Far o a b → e < m.edges
  far_below a b e None q f = absurd f
  far_below a b e (Some (t, h)) q f = (w.known e t h q).0

  below : (a : ℕ) (xs : List Entry) → Fars m.ends a xs → Below m.edges xs
  below a [] fs = tt
  below a (x ∷ xs) fs = (far_below a x.2 x.1 (m.ends x.1) refl fs.0, below a xs fs.1)

  abbrev dues : ℕ → ℕ → ℕ
  dues a e = bit (due m.kind d (m.ends e) a)

  row_length : (a : ℕ) → length (m.row d a) ≡ sum (dues a) m.edges
  row_length a =
      count_length m.edges (m.row d a) (below a (m.row d a) (w.rows d a).fars)
      ∙ sum_same (λ e. count_of e (m.row d a)) (dues a) m.edges (λ e _. (w.rows d a).exact e)

  pub rows_bound : sum (λ a. length (m.row d a)) m.nodes ≤ row_limit m.kind m.edges
  rows_bound =
      let p = sum_same (λ a. length (m.row d a)) (λ a. sum (dues a) m.edges) m.nodes (λ a _. row_length a) in
      let q = sum_swap dues m.nodes m.edges in
      let l = sum_most (λ e. sum (λ a. dues a e) m.nodes) (λ _. most_rows m.kind) m.edges (λ e _. due_most m.kind d (m.ends e) m.nodes) in
      let t = sum_limit m.kind m.edges in
      omega arith

pub row_bound : RowBound
row_bound m w d = rows_bound m w d
