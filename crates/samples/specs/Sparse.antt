-- A graph with gaps: nodes 0 and 2 of three, edge 1 of two, from 0 to 2, at place 7 of its out row and at place 3 of its in row.
use Rattle.std.specs.Prelude.{◌≡◌, ℕ, ◌<◌, Bool, true, false, cond, ◌||◌, List, [], ◌∷◌, Some, None, ◌==◌, nat_eq, refl}
use Rattle.std.proofs.Common.{ap, inl, inr, ⊎_elim, arith}
use Rattle.std.proofs.lemmas.Bool.{cases_Bool, eqb-true}
use Rattle.model.specs.declared.Direction.{Direction}
use Rattle.model.specs.declared.Direction.TheVariants.{Outgoing, Incoming}
use Rattle.model.specs.declared.Kind.TheVariants.{OneWay}
use Rattle.model.specs.Model.{Entry, Ends, Model, Lawful, Row, due, bit}

abbrev pub here : ℕ → Bool
here a = 0 == a || 2 == a

abbrev pub joined : ℕ → Ends
joined e = cond (1 == e) (Some (0, 2)) None

abbrev pub rows : Direction → ℕ → List Entry
rows Outgoing a = cond (0 == a) ((7, 1, 2) ∷ []) []
rows Incoming a = cond (2 == a) ((3, 1, 0) ∷ []) []

abbrev pub sparse : Model
sparse = record { kind = OneWay; nodes = 3; edges = 2; present = here; ends = joined; row = rows }

within : (a : ℕ) → here a ≡ true → a < 3
within a h =
    ⊎_elim
    (λ (t : nat_eq 0 a ≡ true). omega (arith, eqb-true 0 a t))
    (λ (n : nat_eq 0 a ≡ false). let t : nat_eq 2 a ≡ true = rw n at h in omega (arith, eqb-true 2 a t))
    (cases_Bool (0 == a))

abbrev tail_in : Ends → ℕ
tail_in None = 0
tail_in (Some (t, h)) = t

abbrev head_in : Ends → ℕ
head_in None = 0
head_in (Some (t, h)) = h

known : (e t h : ℕ) → joined e ≡ Some (t, h) → (e < 2) × (here t ≡ true) × (here h ≡ true)
known e t h is =
    ⊎_elim
    (λ (y : nat_eq 1 e ≡ true).
    let s : Some (0, 2) ≡ Some (t, h) = rw y at is in
    let p : 0 ≡ t = ap (λ o. tail_in o) s in
    let q : 2 ≡ h = ap (λ o. head_in o) s in
    (omega (arith, eqb-true 1 e y), rw (← p), rw (← q)))
    (λ (n : nat_eq 1 e ≡ false). let s : None ≡ Some (t, h) = rw n at is in let z : ◌≡◌ {A = ℕ} 0 1 = cc in absurd (omega arith))
    (cases_Bool (1 == e))

out_row : (a : ℕ) → Row OneWay Outgoing joined a (rows Outgoing a)
out_row a =
    ⊎_elim
    (λ (y : nat_eq 0 a ≡ true).
    rw y (record {
      ascends = (omega arith, omega arith);
      exact = λ e. elim (1 == e) as (λ t. cond t 1 0 ≡ bit (due OneWay Outgoing (cond t (Some (0, 2)) None) a)) [ true ↦ rw y | false ↦ refl ];
      fars = ((rw y, inl (eqb-true 0 a y)), tt);
    }))
    (λ (n : nat_eq 0 a ≡ false).
    rw n (record {
      ascends = omega arith;
      exact = λ e. elim (1 == e) as (λ t. 0 ≡ bit (due OneWay Outgoing (cond t (Some (0, 2)) None) a)) [ true ↦ rw n | false ↦ refl ];
      fars = tt;
    }))
    (cases_Bool (0 == a))

in_row : (a : ℕ) → Row OneWay Incoming joined a (rows Incoming a)
in_row a =
    ⊎_elim
    (λ (y : nat_eq 2 a ≡ true).
    let e2 = eqb-true 2 a y in
    let far : 0 ≡ cond (0 == a) 2 0 = rw (← e2) in
    rw y (record {
      ascends = (omega arith, omega arith);
      exact = λ e. elim (1 == e) as (λ t. cond t 1 0 ≡ bit (due OneWay Incoming (cond t (Some (0, 2)) None) a)) [ true ↦ rw y | false ↦ refl ];
      fars = ((far, inr e2), tt);
    }))
    (λ (n : nat_eq 2 a ≡ false).
    rw n (record {
      ascends = omega arith;
      exact = λ e. elim (1 == e) as (λ t. 0 ≡ bit (due OneWay Incoming (cond t (Some (0, 2)) None) a)) [ true ↦ rw n | false ↦ refl ];
      fars = tt;
    }))
    (cases_Bool (2 == a))

pub sparse_lawful : Lawful sparse
sparse_lawful = record {
  few_nodes = omega arith;
  few_edges = omega arith;
  within = within;
  known = known;
  rows = λ d a. elim d as (λ d. Row OneWay d joined a (rows d a)) [ Outgoing ↦ out_row a | Incoming ↦ in_row a ];
  even = λ k a. let z : ◌≡◌ {A = ℕ} 0 1 = cc in absurd (omega arith);
}
