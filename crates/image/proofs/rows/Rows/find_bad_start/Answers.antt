use Rattle.std.proofs.Common.{◌≡◌, ℕ, Bool, true, false, not, Some, sym, ap, ◌∙◌, rules, arith}
use borrow.Author.Tests.{tests}
use Rattle.format.specs.Format.{word, tables, total}
use Rattle.format.specs.Faults.{start_ok, first}
use Rattle.image.proofs.Scans.{first_of_find, last_bad, last_good}
use Rattle.image.proofs.rows.Rows.find_bad_start.Goals as goal
use Rattle.image.proofs.rows.Rows.find_bad_start.Goals.{else-is_none-via-then-is_none+else-not-start_fits, else-is_none-via-else-is_none}

pub returns-then-not-start_fits : goal.returns-then-not-start_fits
returns-then-not-start_fits c =
    let b = c.args.self.now.card.bytes.now in
    let ok : ℕ → Bool = start_ok ((tables b).start c.args.direction) (word b 4) (total (tables b)) in
    let n = c.args.self.now.card.reads.nodes in
    ap Some n
    ∙ last_bad ok (word b 4) c.find-found.result
    (first_of_find ok _ _ _ _ (word b 4) (omega arith) c.find-found.ensures.ran (λ x q k. search (rules, tests)) (λ x q k. search (rules, tests)))
    (c.is_none.ensures ∙ ap not c.if-is_none.true) (ap ok (sym n) ∙ sym c.start_fits.ensures ∙ c.if-not-start_fits.true)

pub returns : goal.returns
returns c =
    let b = c.args.self.now.card.bytes.now in
    let ok : ℕ → Bool = start_ok ((tables b).start c.args.direction) (word b 4) (total (tables b)) in
    last_good ok (word b 4) c.find-found.result
    (first_of_find ok _ _ _ _ (word b 4) (omega arith) c.find-found.ensures.ran (λ x q k. search (rules, tests)) (λ x q k. search (rules, tests)))
    (λ h. elim c.else-is_none.branch [
      | else-is_none-via-then-is_none+else-not-start_fits w ↦ ap ok (sym c.args.self.now.card.reads.nodes) ∙ sym w.start_fits.ensures ∙ w.if-not-start_fits.false
      | else-is_none-via-else-is_none w ↦
          let q : true ≡ false = sym (c.is_none.ensures ∙ ap not w.if-is_none.false) ∙ h in
          let z : ◌≡◌ {A = ℕ} 0 1 = cc in
          absurd (omega arith)
    ])
