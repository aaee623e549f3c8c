-- Whether a list holds a node, and its test `member`. Assumes nothing.
use Rattle.std.proofs.Common.{◌≡◌, ℕ, true, false, ◌⊎◌, List, [], ◌∷◌, refl, inl, inr, ⊎_elim, arith}
use Rattle.std.proofs.lemmas.Bool.{cases_eq, eq-eqb, ne_eqb, both_ways}
use Rattle.model.specs.Paths.{In}
use Rattle.theory.specs.Order.{member}

pub in_cases : (y : ℕ) (l : List ℕ) → In y l ⊎ (In y l → ⊥)
in_cases y [] = inr (λ i. i)
in_cases y (x ∷ l) =
    ⊎_elim
    (λ (e : y ≡ x). inl (inl e))
    (λ (d : y ≡ x → ⊥). ⊎_elim (λ (i : In y l). inl (inr i)) (λ (n : In y l → ⊥). inr (⊎_elim d n)) (in_cases y l))
    (cases_eq y x)

pub in_member : (y : ℕ) (l : List ℕ) → In y l → member y l ≡ true
in_member y [] i = absurd i
in_member y (x ∷ l) (inl e) = rw (eq-eqb y x e)
in_member y (x ∷ l) (inr i) = let h = in_member y l i in grind arith

pub out_member : (y : ℕ) (l : List ℕ) → (In y l → ⊥) → member y l ≡ false
out_member y [] n = refl
out_member y (x ∷ l) n = rw (ne_eqb y x (λ e. n (inl e))) (out_member y l (λ i. n (inr i)))

pub member_in : (y : ℕ) (l : List ℕ) → member y l ≡ true → In y l
member_in y l e = ⊎_elim (λ (i : In y l). i) (λ (n : In y l → ⊥). absurd (both_ways (member y l) (out_member y l n) e)) (in_cases y l)
