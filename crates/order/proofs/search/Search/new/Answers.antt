use Rattle.std.proofs.Common.{get_or, refl, ap, ◌∙◌, arith}
use Rattle.workspace.proofs.Zeros.{zeroed_read}
use Rattle.order.proofs.Outers.{begins}
use Rattle.order.proofs.search.Search.new.Goals as goal

pub returns-clause-begun : goal.returns-clause-begun
returns-clause-begun g c =
    let n = c.node_bound-nodes.ensures in
    let cut = c.split_at_mut-ranks.ensures.front_len in
    begins _ c.clear.ensures.after
    (λ x h. ap (λ xs. get_or xs x 0) c.zero_first.ensures ∙ zeroed_read c.node_bound-nodes.result x c.split_at_mut-ranks.result.0.now (omega (arith, h, n)) (omega (arith, cut)))
    refl refl refl
