use Rattle.std.proofs.Common.{ℕ, rules, ap}
use borrow.Author.Tests.{tests}
use Rattle.format.specs.Format.{word, tables, is_due}
use Rattle.format.specs.Faults.{entry_ok}
use Rattle.image.proofs.Scans.{first_in_of_find_map}
use Rattle.image.proofs.started.Started.find_bad_entry.Goals as goal

pub returns : goal.returns
returns c =
    let b = c.args.self.now.rows.card.bytes.now in
    let t = tables b in
    let d = c.args.self.now.direction in
    first_in_of_find_map (λ a. entry_ok (t.entry d) (word b 8) (is_due t d a) (t.start d a)) (t.start d) _ (word b 4) _ _ (ap (λ (n : ℕ). record { start = 0; end = n }) c.args.self.now.rows.card.reads.nodes) c.find_map.ensures.runs (λ x b q k. search (rules, tests))
