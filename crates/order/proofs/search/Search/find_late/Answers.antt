use Rattle.std.proofs.Common.{◌∙◌, arith}
use Rattle.order.proofs.Lates.{check_found, check_more}
use Rattle.order.proofs.search.Search.find_late.Goals as goal

pub returns-in-Some-clause-late : goal.returns-in-Some-clause-late
returns-in-Some-clause-late g c = check_found c.loop-k.invariant c.loop-k-test.true _ c.visit.ensures.after c.last_unmarked_before.result c.last_unmarked_before.ensures c.in-Some.far c.in-Some.is

pub loop-k-preserved : goal.loop-k-preserved
loop-k-preserved g c =
    let b = c.loop-k.invariant in
    let d = b.searched in
    record {
      same_late = check_more b c.loop-k-test.true _ c.visit.ensures.after c.last_unmarked_before.result c.last_unmarked_before.ensures c.in_default.is;
      searched = record { order = d.order; count = d.count; few = d.few; looped = d.looped; forward = d.forward };
      same = record { graph = b.same.graph; marks = b.same.marks; limit = c.visit.ensures.same ∙ b.same.limit };
      few = omega (arith, b.few);
    }
