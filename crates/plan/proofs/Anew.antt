-- An order in a workspace of its own. Assumes nothing.
use Rattle.std.proofs.Common.{◌≡◌, ℕ, ◌≤◌, true, false, List, [], ◌∷◌, ◌++◌, Some, None, Ok, Result, refl, ap, ◌∙◌, ⊎_elim, arith}
use Rattle.std.proofs.lemmas.Bool.{cases_Bool, le-ltb, eq-eqb}
use Rattle.model.specs.Model.{Model}
use Rattle.workspace.specs.declared.refusal.Refusal.{Refusal}
use Rattle.workspace.specs.declared.refusal.Refusal.TheVariants.{WalkOpen}
use Rattle.workspace.specs.Refusals.{Test, first_of, Sizes, memory_tests, call_tests, result_test}
use Rattle.workspace.specs.Calls.{State, Does, unless, fitting, fresh_state, empty}
use Rattle.workspace.specs.Questions.{tidied, question_tests}
use Rattle.workspace.proofs.Nexts.{granted}
use Rattle.order.specs.declared.cycle.Cycle.{Cycle}
use Rattle.order.specs.Questions.{order_answer, toposort}
use Rattle.plan.specs.Plans.{plan_tests}

-- tests that all fail to refuse
first_none : (ts us : List Test) → first_of ts ≡ None → first_of us ≡ None → first_of (ts ++ us) ≡ None
first_none [] us e f = f
first_none (t ∷ ts) us e f =
    ⊎_elim
    (λ (y : t.0 ≡ true). let q : Some t.1 ≡ None = rw y at e in let z : ◌≡◌ {A = ℕ} 0 1 = cc in absurd (omega arith))
    (λ (n : t.0 ≡ false). rw n (first_none ts us (rw n at e) f))
    (cases_Bool t.0)

result_none : (needed lent : ℕ) → needed ≤ lent → first_of (result_test needed lent ∷ []) ≡ None
result_none needed lent h = rw (le-ltb lent needed h)

-- the graph is the record's own
own_none : (z : Sizes) (n m : ℕ) → first_of (memory_tests z n m) ≡ None → first_of (call_tests z n m n m) ≡ None
own_none z n m e = rw (eq-eqb n n refl, eq-eqb m m refl) e

pub record Granted (g : Model) (z : Sizes) (lent : ℕ) (stack : List ℕ) (r : Result (Result ℕ (Cycle ℕ)) Refusal) (s : State) : Type 0 where
  pub none : first_of (plan_tests z lent g) ≡ None
  pub answer : r ≡ Ok (order_answer g)
  pub after : s ≡ tidied (fresh_state g.nodes g.edges stack)

pub anew : (g : Model) (z z' : Sizes) (lent : ℕ) (s₀ s₁ : State) {s₂ : State} {r : Result (Result ℕ (Cycle ℕ)) Refusal} → z' ≡ z → Ok tt ≡ fitting (first_of (memory_tests z g.nodes g.edges)) → g.nodes ≤ lent → Does (empty g z s₀) (Ok tt) s₁ → Does (toposort g z' lent s₁) r s₂ → Granted g z lent s₀.stack r s₂
anew g z z' lent s₀ s₁ {s₂} {r} same e h d t =
    let none = granted (first_of (memory_tests z g.nodes g.edges)) e in
    let short = result_none g.nodes lent h in
    let fresh = fresh_state g.nodes g.edges s₀.stack in
    let first : s₁ ≡ fresh = d.after ∙ ap (λ u. (unless u s₀ (record { answer = Ok tt; after = fresh })).after) none in
    let tests : first_of (question_tests g z fresh) ≡ None = first_none (call_tests z g.nodes g.edges g.nodes g.edges) ((false, WalkOpen) ∷ []) (own_none z g.nodes g.edges none) refl in
    let o : toposort g z' lent s₁ ≡ record { answer = Ok (order_answer g); after = tidied fresh } =
    ap (λ w. toposort g w lent s₁) same
    ∙ ap (toposort g z lent) first
    ∙ ap (λ u. unless u fresh (unless (first_of (result_test g.nodes lent ∷ [])) fresh (record { answer = Ok (order_answer g); after = tidied fresh }))) tests
    ∙ ap (λ u. unless u fresh (record { answer = Ok (order_answer g); after = tidied fresh })) short in
    record {
      none = first_none (memory_tests z g.nodes g.edges) (result_test g.nodes lent ∷ []) none short;
      answer = t.answer ∙ ap (λ o. o.answer) o;
      after = t.after ∙ ap (λ o. o.after) o;
    }
