use Rattle.std.proofs.Common.{ℕ, ◌+◌, ◌-◌, Bool, ◌&&◌, nat_lt, refl, sym, ap, ◌∙◌, rules, arith}
use borrow.Author.Tests.{tests}
use Rattle.format.specs.Format.{word, tables, is_due}
use Rattle.format.specs.Faults.{entry_ok}
use Rattle.image.proofs.Scans.{rises_due, first_of_find, first_alike, entry_first, entry_after, after_first, bad_first}
use Rattle.image.proofs.started.Started.find_in_row.Goals as goal

pub returns-then-not-is_due_edge : goal.returns-then-not-is_due_edge
returns-then-not-is_due_edge c =
    let b = c.args.self.now.rows.card.bytes.now in
    let t = tables b in
    let d = c.args.self.now.direction in
    let a = c.args.a in
    let low = c.bounds-low.result.0 in
    rw (← c.bounds-low.ensures.0, ← c.bounds-low.ensures.1)
    (bad_first (entry_ok (t.entry d) (word b 8) (is_due t d a) low) c.bounds-low.result.1 low (omega arith)
    (sym (entry_first t d a low) ∙ ap (λ e. nat_lt e (word b 8) && is_due t d a e) (sym c.entry_at-first.ensures) ∙ sym c.is_due_edge.ensures ∙ c.if-not-is_due_edge.true))

pub returns : goal.returns
returns c =
    let b = c.args.self.now.rows.card.bytes.now in
    let t = tables b in
    let d = c.args.self.now.direction in
    let a = c.args.a in
    let low = c.bounds-low.result.0 in
    let high = c.bounds-low.result.1 in
    let ok : ℕ → Bool = entry_ok (t.entry d) (word b 8) (is_due t d a) low in
    rw (← c.bounds-low.ensures.0, ← c.bounds-low.ensures.1)
    (first_of_find (rises_due t d a) _ _ _ _ _ refl c.find.ensures.ran (λ x q k. search (rules, tests)) (λ x q k. search (rules, tests))
    ∙ first_alike (rises_due t d a) ok (high - (low + 1)) (low + 1) (λ k l. entry_after t d a low k (omega arith))
    ∙ after_first ok high low (omega arith)
    (sym (entry_first t d a low) ∙ ap (λ e. nat_lt e (word b 8) && is_due t d a e) (sym c.entry_at-first.ensures) ∙ sym c.is_due_edge.ensures ∙ c.if-not-is_due_edge.false))
