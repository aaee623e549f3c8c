use Rattle.std.proofs.Common.{◌≡◌, true, false, ◌<◌, length, sym, ◌∙◌, arith}
use Rattle.lowpoint.proofs.Listings.{list_more, list_right}
use Rattle.cuts.proofs.answers.list.Goals as goal
use Rattle.cuts.proofs.answers.list.Goals.{then-is_wanted, else-is_wanted}

pub loop-k-preserved : goal.loop-k-preserved
loop-k-preserved g c =
    let i : c.loop-k.k < length c.args.res.now = omega (arith, c.bound-k-end.ensures, c.loop-k-test.true, c.requires.long) in
    elim c.if-is_wanted.branch [
      | then-is_wanted w ↦ list_more c.loop-k.invariant i true (sym w.if-is_wanted.true ∙ c.is_wanted.ensures) w.res-is w.count-is
      | else-is_wanted w ↦ list_more c.loop-k.invariant i false (sym w.if-is_wanted.false ∙ c.is_wanted.ensures) w.res-is w.count-is
    ]

pub returns-clause-right : goal.returns-clause-right
returns-clause-right g c =
    let e : c.loop-k.k ≡ c.bound-k-end.result = omega (arith, c.loop-k.auto.k-end, c.loop-k-test.false) in
    let l = rw (e ∙ c.bound-k-end.ensures) at c.loop-k.invariant in
    list_right (g.L.Listed.right _ (g.G.Graph.lawful c.args.found.now.graph.now)) _ l.count l.memory
