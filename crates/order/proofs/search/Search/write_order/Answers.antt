use Rattle.std.proofs.Common.{length, take, drop, ap, ◌∙◌, ◌++◌, arith}
use Rattle.std.proofs.lemmas.List.{length-take-le}
use Rattle.theory.specs.Models.{write_order}
use Rattle.order.specs.Search.{graph_of}
use Rattle.order.proofs.Lates.{down_take}
use Rattle.order.proofs.search.Search.write_order.Goals as goal

pub returns-clause-order : goal.returns-clause-order
returns-clause-order g c =
    let s = c.args.self.now in
    let d = c.requires.searched in
    let o = down_take s.list.now s.count (omega (arith, d.few, s.long)) ∙ d.order in
    let n = length-take-le s.count s.list.now (omega (arith, d.few, s.long)) ∙ d.count in
    c.write_backwards.ensures ∙ ap (λ l. l ++ drop (length (take s.count s.list.now)) c.args.res.now) o ∙ ap (λ n. write_order (graph_of s) ++ drop n c.args.res.now) n
