-- Entries of a row: which edges it count_of and where they lead. Assumes nothing.
use Rattle.std.proofs.Common.{◌≡◌, ℕ, ◌+◌, ◌<◌, true, false, cond, eqb, List, [], ◌∷◌, length, sym, refl, inl, inr, ⊎_elim, arith}
use Rattle.std.proofs.lemmas.Bool.{cases_Bool, eq-eqb, eqb-true}
use Rattle.model.specs.Model.{Entry, Ends, count_of, Far, Fars, sum}
use Rattle.model.specs.Paths.{Leads}
use Rattle.model.proofs.Sums.{sum_none, sum_bump}

pub leads_far : (ends : ℕ → Ends) (a : ℕ) (xs : List Entry) (e b : ℕ) → Fars ends a xs → Leads e b xs → Far (ends e) a b
leads_far ends a [] e b fs i = absurd i
leads_far ends a (x ∷ xs) e b fs (inl q) = rw (← q.0, ← q.1) fs.0
leads_far ends a (x ∷ xs) e b fs (inr i) = leads_far ends a xs e b fs.1 i

pub leads_count : (xs : List Entry) (e b : ℕ) → Leads e b xs → 0 < count_of e xs
leads_count [] e b i = absurd i
leads_count (x ∷ xs) e b (inl q) = rw (eq-eqb x.1 e q.0) (omega arith)
leads_count (x ∷ xs) e b (inr i) =
    let r = leads_count xs e b i in
    elim (eqb x.1 e) as (λ t. 0 < cond t (1 + count_of e xs) (count_of e xs)) [ true ↦ omega arith | false ↦ omega arith ]

pub count_leads : (xs : List Entry) (e : ℕ) → 0 < count_of e xs → (b : ℕ) × Leads e b xs
count_leads [] e h = absurd (omega arith)
count_leads (x ∷ xs) e h =
    ⊎_elim
    (λ (t : eqb x.1 e ≡ true). (x.2, inl (eqb-true x.1 e t, refl)))
    (λ (t : eqb x.1 e ≡ false). let r = count_leads xs e (rw t at h) in (r.0, inr r.1))
    (cases_Bool (eqb x.1 e))

-- every edge of the row is below n
abbrev pub Below : ℕ → List Entry → Type 0
Below n [] = Unit {0}
Below n (x ∷ xs) = (x.1 < n) × Below n xs

-- a row's length is the sum of what each edge has in it
pub count_length : (n : ℕ) (xs : List Entry) → Below n xs → length xs ≡ sum (λ e. count_of e xs) n
count_length n [] k = sym (sum_none n)
count_length n (x ∷ xs) k =
    let r = count_length n xs k.1 in
    let s = sum_bump (λ e. count_of e xs) x.1 n k.0 in
    omega arith
