use Rattle.std.proofs.Common.{◌*◌, ltb, rules, arith}
use borrow.Author.Tests.{tests}
use Rattle.format.specs.Format.{word, tables}
use Rattle.image.proofs.Scans.{first_of_find}
use Rattle.image.proofs.card.Card.find_bad_end.Goals as goal

pub returns : goal.returns
returns c =
    let b = c.args.self.now.bytes.now in
    first_of_find (λ j. ltb ((tables b).end j) (word b 4)) _ _ _ _ (2 * word b 8) (omega arith) c.find.ensures.ran (λ x q k. search (rules, tests)) (λ x q k. search (rules, tests))
