-- A graph with a topological order has no cycle. Assumes nothing.
use Rattle.std.proofs.Common.{ℕ, List, [], ◌∷◌, inl, inr}
use Rattle.model.specs.Model.{Model}
use Rattle.model.specs.Paths.{Step, Follows, In, Later, Distinct, Topological}
use Rattle.model.specs.Laws.{NoCycle}

later_second : (xs : List ℕ) (a b : ℕ) → Later xs a b → In b xs
later_second [] a b l = absurd l
later_second (x ∷ xs) a b (inl p) = inr p.1
later_second (x ∷ xs) a b (inr l) = inr (later_second xs a b l)

pub later_trans : (xs : List ℕ) (a b c : ℕ) → Distinct xs → Later xs a b → Later xs b c → Later xs a c
later_trans [] a b c d l k = absurd l
later_trans (x ∷ xs) a b c d (inl p) (inl q) = absurd (d.0 (rw q.0 at p.1))
later_trans (x ∷ xs) a b c d (inl p) (inr k) = inl (p.0, later_second xs b c k)
later_trans (x ∷ xs) a b c d (inr l) (inl q) = absurd (d.0 (rw q.0 at (later_second xs a b l)))
later_trans (x ∷ xs) a b c d (inr l) (inr k) = inr (later_trans xs a b c d.1 l k)

pub later_once : (xs : List ℕ) (a : ℕ) → Distinct xs → Later xs a a → ⊥
later_once [] a d l = l
later_once (x ∷ xs) a d (inl p) = d.0 (rw p.0 at p.1)
later_once (x ∷ xs) a d (inr l) = later_once xs a d.1 l

module _ (m : Model) (order : List ℕ) (t : Topological m order) where
  -- a path of one step or more leads to a later node
  follows_later : (a : ℕ) (x : Step) (s : List Step) (b : ℕ) → Follows m a (x ∷ s) b → Later order a b
  follows_later a x [] b f = rw f.1 at (t.forward x.0 a x.1 f.0)
  follows_later a x (y ∷ s) b f =
      later_trans order a x.1 b t.once (t.forward x.0 a x.1 f.0) (follows_later x.1 y s b f.1)

pub no_cycle : NoCycle
no_cycle m order t a c = later_once order a t.once (follows_later m order t a c.0 c.1.0 a c.1.1.steps)
