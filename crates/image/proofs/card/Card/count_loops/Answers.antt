use Rattle.std.proofs.Common.{◌==◌, ◌∙◌, rules, arith}
use Rattle.std.proofs.lemmas.Iterator.{YieldsList-from_range, YieldsList-from_map}
use Rattle.std.proofs.lemmas.Iterator.Consumers.{sum_by_from_yields_List, fits_by_from_yields_list}
use borrow.Author.Tests.{tests}
use Rattle.std.specs.Int.{from_bool}
use Rattle.std.specs.List.{range_with_len}
use Rattle.format.specs.Format.{word, tables, tail_of, head_of}
use Rattle.format.proofs.Steps.{loops_most}
use Rattle.image.proofs.Scans.{loops_listed}
use Rattle.image.proofs.card.Card.count_loops.Goals as goal

pub sum-requires-clause-fits : goal.sum-requires-clause-fits
sum-requires-clause-fits c =
    let b = c.args.self.now.bytes.now in
    let t = tables b in
    fits_by_from_yields_list (λ e. from_bool (tail_of t e == head_of t e)) (range_with_len 0 (word b 8)) c.map.result _
    (YieldsList-from_map _ _ (YieldsList-from_range 0 c.args.self.now.header.edges (word b 8) c.map.ensures.source (omega arith)) c.map.ensures.closure (λ x r q k. search (rules, tests)))
    (omega (arith, loops_listed t (word b 8) 0, loops_most t (word b 8) 0))

pub returns : goal.returns
returns c =
    let b = c.args.self.now.bytes.now in
    let t = tables b in
    sum_by_from_yields_List (λ e. from_bool (tail_of t e == head_of t e)) (range_with_len 0 (word b 8)) c.map.result c.sum.result c.sum.ensures.ran
    (YieldsList-from_map _ _ (YieldsList-from_range 0 c.args.self.now.header.edges (word b 8) c.map.ensures.source (omega arith)) c.map.ensures.closure (λ x r q k. search (rules, tests)))
    ∙ loops_listed t (word b 8) 0
