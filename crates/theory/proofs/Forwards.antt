-- The order law. Assumes nothing.
use Rattle.std.proofs.Common.{◌≡◌, ℕ, ◌<◌, true, List, [], ◌∷◌, refl, inl, inr, ⊎_elim}
use Rattle.std.proofs.lemmas.Bool.{both_ways}
use Rattle.model.specs.Paths.{In, Distinct}
use Rattle.model.specs.Sets.{nothing}
use Rattle.theory.specs.Search.{Rows, Reach, start, along}
use Rattle.theory.specs.Order.{Finished, searched, order, OnCycle, Forward, OrderLaw}
use Rattle.theory.proofs.Sets.{left_most}
use Rattle.theory.proofs.Finish.{Fin, Tied, total, fin_once, fin_tied, fin_all, fin_new, fin_only}

module _ (row : Rows) where
  -- where every far node stands later, no path leaves the list
  forward_in : (l : List ℕ) → Forward row l → (z y : ℕ) → In z l → In y (row z) → In y l
  forward_in [] f z y i j = i
  forward_in (x ∷ l) f z y (inl q) j = inr (f.0 y (rw q at j))
  forward_in (x ∷ l) f z y (inr i) j = inr (forward_in l f.1 z y i j)

  forward_path : (l : List ℕ) → Forward row l → {z y : ℕ} → Reach row nothing z y → In z l → In y l
  forward_path l f (start k) i = i
  forward_path l f (along {x = x} {y = y} w j k) i = forward_in l f x y (forward_path l f w i) j

  pub forward_acyclic : (l : List ℕ) → Forward row l → Distinct l → (x : ℕ) → In x l → OnCycle row x → ⊥
  forward_acyclic [] f a x i c = i
  forward_acyclic (z ∷ l) f a x (inl q) c = a.0 (rw q at (forward_path l f.1 c.1.1 (f.0 c.0 (rw q at c.1.0))))
  forward_acyclic (z ∷ l) f a x (inr i) c = forward_acyclic l f.1 a.1 x i c

  tied_forward : (l : List ℕ) → Tied row l → ((x : ℕ) → OnCycle row x → ⊥) → Forward row l
  tied_forward [] t n = tt
  tied_forward (x ∷ l) t n = (
    λ y i. ⊎_elim (λ (j : In y l). j) (λ (w : Reach row nothing y x). absurd (n x (y, (i, w)))) (t.0 y i),
    tied_forward l t.1 n,
  )

  -- what the order of the whole graph holds
  module _ (N : ℕ) (nodes : List ℕ) (h : (y : ℕ) → In y nodes → y < N) (c : (x y : ℕ) → In y (row x) → In y nodes) where
    found : Fin row nodes nothing [] (searched row N nodes).seen (order row N nodes)
    found = let v : Finished = record { seen = nothing; order = [] } in total row N N (λ x y i. h y (c x y i)) nodes v (left_most nothing N) h

    pub order_once : Distinct (order row N nodes)
    order_once = fin_once row found (λ y i. absurd i) tt

    pub order_all : (y : ℕ) → In y nodes → In y (order row N nodes)
    order_all y i =
        ⊎_elim
        (λ (k : nothing y ≡ true). absurd (both_ways (nothing y) refl k))
        (λ (j : In y (order row N nodes)). j)
        (fin_new row found y (fin_all row found y i))

    pub order_tied : Tied row (order row N nodes)
    order_tied = fin_tied row found (λ g x k. absurd (both_ways (nothing g) refl k)) tt

    order_only : (y : ℕ) → In y (order row N nodes) → In y nodes
    order_only = fin_only row (λ y. In y nodes) c found (λ y i. i) (λ y i. absurd i)

pub order_law : OrderLaw
order_law row N nodes h c =
    let l = order row N nodes in
    record {
      once = order_once row N nodes h c;
      all = order_all row N nodes h c;
      only = order_only row N nodes h c;
      forward = tied_forward row l (order_tied row N nodes h c);
      acyclic = λ f x i. forward_acyclic row l f (order_once row N nodes h c) x (order_all row N nodes h c x i);
    }
