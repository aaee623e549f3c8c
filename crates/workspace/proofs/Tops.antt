-- The topmost unmarked entry, and what a row writes. Assumes nothing.
use Rattle.std.proofs.Common.{◌≡◌, ℕ, zero, suc, ◌+◌, ◌<◌, ◌≤◌, Bool, true, false, cond, List, [], ◌∷◌, length, get_or, Some, Ok, Err, Option, IfSome, sym, refl, ap, ◌∙◌, arith}
use Rattle.workspace.specs.declared.refusal.Refusal.TheVariants.{StrayEntry}
use Rattle.model.specs.Model.{Entry}
use Rattle.model.specs.Sets.{Set}
use Rattle.workspace.specs.Calls.{Top, top_of, unmarked, write}

-- A row in the middle of being pushed: what is left of it writes what is left to write.
pub record Pushing (s : Set) (rest row : List Entry) (mem : List ℕ) (at : ℕ) (start : List ℕ) (d : ℕ) : Type 0 where
  pub roomy : at + length rest ≤ length mem
  pub along : at + length rest ≤ d + length row
  pub writes : write mem at (unmarked s rest) ≡ write start d (unmarked s row)
  pub ends : at + length (unmarked s rest) ≡ d + length (unmarked s row)

-- a present node with fewer than n entries below it
pub record Told (p : ℕ → Bool) (n a d : ℕ) : Type 0 where
  pub below : d < n
  pub present : p a ≡ true

top_step : (p : ℕ → Bool) (x k a d : ℕ) (t : Top) (b c : Bool) → p x ≡ b → (t ≡ Ok (Some (a, d)) → Told p k a d) → cond b (cond c t (Ok (Some (x, k)))) (Err StrayEntry) ≡ Ok (Some (a, d)) → Told p (suc k) a d
top_step p x k a d t true true pe r e = let q = r e in record { below = omega (arith, q.below); present = q.present }
top_step p x k a d t true false pe r e =
    let both : ◌≡◌ {A = ℕ × ℕ} (x, k) (a, d) = cc in
    record { below = omega (arith, ap (λ q. q.1) both); present = ap (λ q. p q.0) (sym both) ∙ pe }
top_step p x k a d t false c pe r e = cc

-- what the topmost unmarked entry is
top_tells : (p : ℕ → Bool) (s : Set) (mem : List ℕ) (n a d : ℕ) → top_of p s mem n ≡ Ok (Some (a, d)) → Told p n a d
top_tells p s mem zero a d e = cc
top_tells p s mem (suc k) a d e = top_step p (get_or mem k 0) k a d (top_of p s mem k) (p (get_or mem k 0)) (s (get_or mem k 0)) refl (top_tells p s mem k a d) e

-- what is taken off the stack of an open walk with room for k entries
pub taken : (p : ℕ → Bool) (s : Set) (mem : List ℕ) {walk : Option ℕ} {k depth a d : ℕ} {o : Option (ℕ × ℕ)} → IfSome walk (λ n. n ≤ k) → walk ≡ Some depth → Ok o ≡ top_of p s mem depth → o ≡ Some (a, d) → Told p k a d
taken p s mem {k = k} {depth = depth} {a = a} {d = d} w e t i =
    let high : depth ≤ k = rw e at w in
    let r = top_tells p s mem depth a d (sym t ∙ ap (λ o. Ok o) i) in
    record { below = omega (arith, r.below); present = r.present }

pub unmarked_length : (s : Set) (xs : List Entry) → length (unmarked s xs) ≤ length xs
unmarked_length s [] = omega arith
unmarked_length s (x ∷ xs) = let r = unmarked_length s xs in elim (s x.2) as (λ b. length (cond b (unmarked s xs) (x.2 ∷ unmarked s xs)) ≤ length (x ∷ xs)) [ true ↦ omega arith | false ↦ omega arith ]
