-- The numbers that pass a test, written one after the other. Assumes nothing.
use Rattle.std.proofs.Common.{◌≡◌, ℕ, zero, suc, ◌+◌, ◌<◌, ◌≤◌, Bool, true, false, cond, List, [], ◌∷◌, ◌++◌, length, drop, take, set, sym, refl, ap, ◌∙◌, subst, arith}
use Rattle.std.proofs.lemmas.List.{length-append, take_at}
use Rattle.model.specs.Sets.{Set}
use Rattle.theory.specs.Models.{upto}
use Rattle.theory.proofs.Models.{upto_plus}
use Rattle.lowpoint.specs.Cuts.{ListsAll}

-- the numbers below i that pass stand first, and then what stood there
pub record Listing (p : Set) (i n : ℕ) (mem old : List ℕ) : Type 0 where
  pub count : n ≡ length (upto p i)
  pub memory : mem ≡ upto p i ++ drop n old
  pub few : n ≤ i

write_at : (xs : List ℕ) (y k : ℕ) (ys : List ℕ) → set (xs ++ y ∷ ys) (length xs) k ≡ (xs ++ k ∷ []) ++ ys
write_at [] y k ys = refl
write_at (x ∷ xs) y k ys = ap (λ zs. x ∷ zs) (write_at xs y k ys)

drop_one : (n : ℕ) (xs : List ℕ) → n < length xs → (y : ℕ) × (drop n xs ≡ y ∷ drop (n + 1) xs)
drop_one n [] h = absurd (omega arith)
drop_one zero (x ∷ xs) h = (x, refl)
drop_one (suc n) (x ∷ xs) h = let e : suc n + 1 ≡ suc (n + 1) = omega arith in let r = drop_one n xs (omega arith) in (r.0, rw e r.1)

pub list_more : {p : Set} {i n : ℕ} {mem old : List ℕ} → Listing p i n mem old → i < length old → (b : Bool) → b ≡ p i → {n₁ : ℕ} {mem₁ : List ℕ} → mem₁ ≡ cond b (set mem n i) mem → n₁ ≡ cond b (n + 1) n → Listing p (i + 1) n₁ mem₁ old
list_more {p = p} {i = i} {n = n} {mem = mem} {old = old} L h true t e f =
    let u : upto p (i + 1) ≡ upto p i ++ i ∷ [] = upto_plus p i ∙ rw (← t) in
    let few = L.few in
    let d = drop_one n old (omega arith) in
    let l = ap length u ∙ length-append (upto p i) (i ∷ []) in
    let c = L.count in
    record {
      count = omega arith;
      memory =
          e
          ∙ ap (λ xs. set xs n i) (L.memory ∙ ap (λ xs. upto p i ++ xs) d.1)
          ∙ ap (λ k. set (upto p i ++ d.0 ∷ drop (n + 1) old) k i) c
          ∙ write_at (upto p i) d.0 i (drop (n + 1) old)
          ∙ ap (λ xs. xs ++ drop (n + 1) old) (sym u)
          ∙ ap (λ k. upto p (i + 1) ++ drop k old) (sym f);
      few = omega arith;
    }
list_more {p = p} {i = i} {n = n} {old = old} L h false t e f =
    let u : upto p (i + 1) ≡ upto p i = upto_plus p i ∙ rw (← t) in
    let few = L.few in
    record {
      count = f ∙ L.count ∙ ap length (sym u);
      memory = e ∙ L.memory ∙ ap (λ xs. xs ++ drop n old) (sym u) ∙ ap (λ k. upto p (i + 1) ++ drop k old) (sym f);
      few = omega arith;
    }

-- a list that stands first is read back
pub list_right : {P : ℕ → Type 0} {list : List ℕ} → ListsAll P list → (rest : List ℕ) {n : ℕ} {mem : List ℕ} → n ≡ length list → mem ≡ list ++ rest → ListsAll P (take n mem)
list_right {P = P} {list = list} w rest {n = n} c e =
    let R : List ℕ → Type 0 = ListsAll P in
    subst R (sym (ap (take n) e ∙ take_at list rest n (sym c))) w
