-- What joined and reversed lists hold. Assumes nothing.
use Rattle.std.proofs.Common.{◌≡◌, ℕ, ◌⊎◌, List, [], ◌∷◌, ◌++◌, reverse, refl, inl, inr, ⊎_elim}
use mathlib.Core.List.{reverse_aux}
use Rattle.model.specs.Paths.{In, Distinct}

pub in_join : (y : ℕ) (a b : List ℕ) → In y (a ++ b) → In y a ⊎ In y b
in_join y [] b i = inr i
in_join y (x ∷ a) b (inl e) = inl (inl e)
in_join y (x ∷ a) b (inr i) = ⊎_elim (λ (j : In y a). inl (inr j)) (λ (j : In y b). inr j) (in_join y a b i)

pub in_first : (y : ℕ) (a b : List ℕ) → In y a → In y (a ++ b)
in_first y [] b i = absurd i
in_first y (x ∷ a) b (inl e) = inl e
in_first y (x ∷ a) b (inr i) = inr (in_first y a b i)

pub in_second : (y : ℕ) (a b : List ℕ) → In y b → In y (a ++ b)
in_second y [] b i = i
in_second y (x ∷ a) b i = inr (in_second y a b i)

pub distinct_join : (a b : List ℕ) → Distinct a → Distinct b → ((y : ℕ) → In y a → In y b → ⊥) → Distinct (a ++ b)
distinct_join [] b p q n = q
distinct_join (x ∷ a) b p q n = (λ i. ⊎_elim p.0 (n x (inl refl)) (in_join x a b i), distinct_join a b p.1 q (λ y i. n y (inr i)))

-- what a reversed list holds
in_turned : (y : ℕ) (xs ys : List ℕ) → In y (reverse_aux xs ys) → In y xs ⊎ In y ys
in_turned y [] ys i = inr i
in_turned y (x ∷ xs) ys i =
    ⊎_elim
    (λ (j : In y xs). inl (inr j))
    (λ (j : In y (x ∷ ys)). ⊎_elim (λ (e : y ≡ x). inl (inl e)) (λ (k : In y ys). inr k) j)
    (in_turned y xs (x ∷ ys) i)

pub in_reverse : (y : ℕ) (xs : List ℕ) → In y (reverse xs) → In y xs
in_reverse y xs i = ⊎_elim (λ (j : In y xs). j) (λ (j : ⊥). absurd j) (in_turned y xs [] i)

turned_first : (y : ℕ) (xs ys : List ℕ) → In y ys → In y (reverse_aux xs ys)
turned_first y [] ys i = i
turned_first y (x ∷ xs) ys i = turned_first y xs (x ∷ ys) (inr i)

turned_second : (y : ℕ) (xs ys : List ℕ) → In y xs → In y (reverse_aux xs ys)
turned_second y [] ys i = absurd i
turned_second y (x ∷ xs) ys (inl e) = turned_first y xs (x ∷ ys) (inl e)
turned_second y (x ∷ xs) ys (inr i) = turned_second y xs (x ∷ ys) i

pub reverse_in : (y : ℕ) (xs : List ℕ) → In y xs → In y (reverse xs)
reverse_in y xs i = turned_second y xs [] i
