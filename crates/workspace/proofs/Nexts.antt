-- What the tests of a call tell. Assumes nothing.
use Rattle.std.proofs.Common.{◌≡◌, ℕ, ◌*◌, Bool, true, false, cond, not, ◌&&◌, eqb, nat_lt, Some, None, Ok, Option, refl}
use Rattle.std.proofs.lemmas.Bool.{eqb-true, ltb-false, and_parts, not-false}
use Rattle.model.specs.Model.{Model}
use Rattle.workspace.specs.declared.refusal.Refusal.{Refusal}
use Rattle.workspace.specs.declared.refusal.Refusal.TheVariants.{StackShort, TableShort, MarksShort, OtherGraph}
use Rattle.workspace.specs.Refusals.{first_of, Sizes, room, call_tests}
use Rattle.workspace.specs.Calls.{fitting}
use Rattle.workspace.specs.Questions.{Fit}

pub granted : (u : Option Refusal) → Ok tt ≡ fitting u → u ≡ None
granted None e = refl
granted (Some f) e = cc

passed : (b : Bool) (f : Refusal) (y : Option Refusal) → cond b (Some f) y ≡ None → (b ≡ false) × (y ≡ None)
passed true f y e = cc
passed false f y e = (refl, e)

pub fit_of : (g : Model) (z : Sizes) (n k : ℕ) → first_of (call_tests z g.nodes g.edges n k) ≡ None → Fit g z n k
fit_of g z n k u =
    let p = passed (not (eqb g.nodes n && eqb g.edges k)) OtherGraph _ u in
    let q = and_parts (eqb g.nodes n) (eqb g.edges k) (not-false _ p.0) in
    let s = passed (nat_lt z.stack (room n k)) StackShort _ p.1 in
    let t = passed (nat_lt z.table (4 * n)) TableShort _ s.1 in
    let v = passed (nat_lt z.marks n) MarksShort None t.1 in
    record {
      nodes = eqb-true g.nodes n q.0;
      edges = eqb-true g.edges k q.1;
      stack = ltb-false z.stack (room n k) s.0;
      table = ltb-false z.table (4 * n) t.0;
      marks = ltb-false z.marks n v.0;
      none = u;
    }

pub fit_tells : (g : Model) (z : Sizes) (n k : ℕ) → Ok tt ≡ fitting (first_of (call_tests z g.nodes g.edges n k)) → Fit g z n k
fit_tells g z n k e = fit_of g z n k (granted (first_of (call_tests z g.nodes g.edges n k)) e)
