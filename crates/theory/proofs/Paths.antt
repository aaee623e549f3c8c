-- Paths that go one step on. Assumes nothing.
use Rattle.std.proofs.Common.{◌≡◌, ℕ, ◌⊎◌, [], ◌∷◌, ◌++◌, List, refl, inl, inr, ⊎_elim}
use Rattle.model.specs.declared.Direction.TheVariants.{Outgoing}
use Rattle.model.specs.Model.{Model}
use Rattle.model.specs.Paths.{In, Leads, Step, Follows, nodes_of}

pub follows_on : (g : Model) (a : ℕ) (s : List Step) (b e c : ℕ) → Follows g a s b → Leads e c (g.row Outgoing b) → Follows g a (s ++ (e, c) ∷ []) c
follows_on g a [] b e c f l = (rw f l, refl)
follows_on g a (x ∷ s) b e c f l = (f.0, follows_on g x.1 s b e c f.1 l)

pub nodes_on : (s : List Step) (e c v : ℕ) → In v (nodes_of (s ++ (e, c) ∷ [])) → In v (nodes_of s) ⊎ (v ≡ c)
nodes_on [] e c v (inl q) = inr q
nodes_on [] e c v (inr i) = absurd i
nodes_on (x ∷ s) e c v (inl q) = inl (inl q)
nodes_on (x ∷ s) e c v (inr i) = ⊎_elim (λ (j : In v (nodes_of s)). inl (inr j)) (λ (q : v ≡ c). inr q) (nodes_on s e c v i)
