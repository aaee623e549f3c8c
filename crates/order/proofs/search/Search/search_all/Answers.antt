use Rattle.std.proofs.Common.{arith}
use Rattle.order.proofs.Outers.{same_nodes, ended}
use Rattle.order.proofs.search.Search.search_all.Goals as goal

pub search_from-requires : goal.search_from-requires
search_from-requires g c = record { inside = omega (arith, c.node_bound-i-end.ensures, same_nodes c.loop-i.invariant.1); between = c.loop-i.invariant.0 }

pub returns : goal.returns
returns g c =
    let b = c.loop-i.invariant in
    record { searched = ended b.0 (omega (arith, c.node_bound-i-end.ensures, c.loop-i.auto.i-end, same_nodes b.1)); same = b.1 }
