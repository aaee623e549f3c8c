-- Rows of entries: what is at or after a place, as a loop over a row asks for it. Assumes nothing.
use Rattle.std.proofs.Common.{◌≡◌, ℕ, ◌+◌, ◌<◌, ◌≤◌, leb, List, [], ◌∷◌, length, Some, Option, sym, refl, ap, ◌∙◌, subst, ⊎_elim, arith}
use Rattle.std.proofs.lemmas.Bool.{cases_Bool, leb-true, leb-false, le-leb, lt-leb, cond-true, cond-false}
use Rattle.model.specs.declared.Direction.{Direction}
use Rattle.model.specs.Model.{Entry, Model, Lawful, from, front, Ascends}

-- a row that begins at or after the place is all of what is left
pub from_low : (low p : ℕ) (xs : List Entry) → Ascends low xs → p ≤ low → from xs p ≡ xs
from_low low p [] a h = refl
from_low low p (x ∷ xs) a h = cond-true (leb p x.0) (x ∷ xs) (from xs p) (le-leb p x.0 (omega (arith, a.0)))

pub ascends_below : (low : ℕ) (xs : List Entry) → Ascends low xs → low + length xs ≤ 262144
ascends_below low [] a = omega arith
ascends_below low (x ∷ xs) a = omega (arith, a.0, ascends_below (x.0 + 1) xs a.1)

pub record Next (xs : List Entry) (p : ℕ) (x : Entry) : Type 0 where
  pub split : from xs p ≡ x ∷ from xs (x.0 + 1)
  pub past : p ≤ x.0
  pub below : x.0 < 262144

pub from_skip : (x : Entry) (xs : List Entry) (p : ℕ) → x.0 < p → from (x ∷ xs) p ≡ from xs p
from_skip x xs p h = cond-false (leb p x.0) (x ∷ xs) (from xs p) (lt-leb p x.0 h)

pub from_stop : (x : Entry) (xs : List Entry) (p : ℕ) → p ≤ x.0 → from (x ∷ xs) p ≡ x ∷ xs
from_stop x xs p h = cond-true (leb p x.0) (x ∷ xs) (from xs p) (le-leb p x.0 h)

pub from_some : (low : ℕ) (xs : List Entry) (p : ℕ) (x : Entry) → Ascends low xs → front (from xs p) ≡ Some x → Next xs p x
from_some low [] p x a e = let z : ◌≡◌ {A = ℕ} 0 1 = cc in absurd (omega arith)
from_some low (y ∷ ys) p x a e =
    ⊎_elim
    (λ t.
    let h = leb-true p y.0 t in
    let same : y ≡ x = (let s = from_stop y ys p h in let f : front (from (y ∷ ys) p) ≡ Some y = ap front s in cc) in
    let b = ascends_below (y.0 + 1) ys a.1 in
    let P : Entry → Type 0 = λ z. Next (y ∷ ys) p z in
    subst P same (record {
      split = from_stop y ys p h ∙ ap (λ zs. y ∷ zs) (sym (from_skip y ys (y.0 + 1) (omega arith) ∙ from_low (y.0 + 1) (y.0 + 1) ys a.1 (omega arith)));
      past = h;
      below = omega arith;
    }))
    (λ t.
    let h = leb-false p y.0 t in
    let s = from_skip y ys p h in
    let r = from_some (y.0 + 1) ys p x a.1 (ap front (sym s) ∙ e) in
    let q = r.past in
    record {
      split = s ∙ r.split ∙ ap (λ zs. x ∷ zs) (sym (from_skip y ys (x.0 + 1) (omega arith)));
      past = r.past;
      below = r.below;
    })
    (cases_Bool (leb p y.0))

-- the same for a row of a graph, as a question's answer gives it
pub next_of : {m : Model} → Lawful m → (d : Direction) (a p : ℕ) {x : Entry} → Some x ≡ front (from (m.row d a) p) → Next (m.row d a) p x
next_of w d a p e = from_some 0 _ _ _ (w.rows d a).ascends (sym e)

pub next_asked : {m : Model} {d : Direction} {a p : ℕ} {r : Option Entry} {x : Entry} → Lawful m → r ≡ front (from (m.row d a) p) → r ≡ Some x → Next (m.row d a) p x
next_asked {d = d} {a = a} {p = p} w is was = next_of w d a p (sym was ∙ is)
