use Rattle.std.proofs.Common.{◌≡◌, ℕ, ◌+◌, ◌-◌, ◌<◌, ◌≤◌, List, length, take, drop, sym, ap, ◌∙◌, subst, refl, arith}
use Rattle.std.proofs.lemmas.List.{drop-set-lt}
use Rattle.workspace.specs.Refusals.{sizes}
use Rattle.workspace.specs.Calls.{new_state}
use Rattle.law.specs.declared.call.Call.TheVariants.{Empty}
use Rattle.law.specs.Runs.{lent_all, Turn, turns}
use Rattle.law.specs.Law.{Law}
use Rattle.law.specs.Plays.{after, table_of}
use Rattle.law.proofs.Prefixes.{one_more, run_keeps, run_leaves, run_tables, has_room, room_on}
use Rattle.runs.proofs.run.Goals as goal

pub offset_bounds-results-at : goal.offset_bounds-results-at
offset_bounds-results-at g c = omega (arith, c.loop-i.invariant.0.inside)

pub slice_bounds-piece-end : goal.slice_bounds-piece-end
slice_bounds-piece-end g c =
    let l = c.loop-i in
    let r = has_room c.args.calls.now l.i Empty (length c.args.answers.now - l.i) (length c.args.results.now - l.at) (omega (arith, l.invariant.3, c.loop-i-test.true)) in
    omega (arith, r.result, c.lent.ensures, l.invariant.0.inside, l.auto.results)

pub loop-i-preserved : goal.loop-i-preserved
loop-i-preserved g c =
    let l = c.loop-i in
    let e = c.perform.ensures in
    let f = l.invariant.0 in
    let calls = c.args.calls.now in
    let r = has_room calls l.i Empty (length c.args.answers.now - l.i) (length c.args.results.now - l.at) (omega (arith, l.invariant.3, c.loop-i-test.true)) in
    let same : sizes (length l.stack) (length l.table) (g.M.VisitMap.limit l.marks) ≡ sizes (length c.args.stack.now) (length c.args.table.now) (g.M.VisitMap.limit c.args.marks.now) =
    rw (l.auto.stack, l.auto.table, l.invariant.1) in
    let wide : l.at + c.lent.result ≤ length l.results = omega (arith, r.result, c.lent.ensures, f.inside, l.auto.results) in
    let answer : l.i < length l.answers = omega (arith, r.answer, l.auto.answers) in (
      one_more f Empty _ c.lent.result c.perform.result _ c.perform.new.res c.perform.new.table c.lent.ensures r.call answer wide same e.performed.0 e.performed.1 e.performed.2 c.perform.auto.res e.table,
      e.limit ∙ l.invariant.1,
      drop-set-lt c.room_for-count.result l.answers l.i c.perform.result c.loop-i-test.true ∙ l.invariant.2,
      omega (arith, l.invariant.3, room_on calls l.i Empty (length c.args.answers.now) (length c.args.results.now) l.at c.lent.result c.lent.ensures r),
    )

pub returns : goal.returns
returns g c =
    let l = c.loop-i in
    let f = l.invariant.0 in
    let m = g.G.Graph.model c.args.graph.now in
    let mem = c.args.stack.now in
    let k = g.M.VisitMap.marked c.args.marks.now in
    let z = sizes (length mem) (length c.args.table.now) (g.M.VisitMap.limit c.args.marks.now) in
    let calls = c.args.calls.now in
    let new = c.new-work.ensures mem k in
    let last : l.i ≡ c.room_for-count.result = omega (arith, l.auto.i-end) in
    let made : ℕ → List Turn = λ n. turns (take n calls) (take n l.answers) c.args.results.now l.results in
    let left = run_leaves z mem k new f ∙ ap (λ n. after m z (new_state mem k) (take n calls)) last in
    let rest : drop (lent_all (take l.i calls)) l.results ≡ drop (lent_all (take l.i calls)) c.args.results.now =
    ap (λ n. drop n l.results) (sym f.lent_is) ∙ f.rest ∙ ap (λ n. drop n c.args.results.now) f.lent_is in
    record {
      count = c.room_for-count.ensures;
      law = let P : ℕ → Type 0 = λ n. Law m z (take n calls) (made n) in subst P last (run_keeps z mem k new f (g.G.Graph.lawful c.args.graph.now) refl);
      memory = ap (λ s. s.stack) left;
      table = run_tables z mem k new f ∙ ap (λ n. table_of m.nodes (made n) c.args.table.now) last;
      marks = ap (λ s. s.marks) left;
      limit = l.invariant.1;
      rest = l.invariant.2;
      unlent = let P : ℕ → Type 0 = λ n. drop (lent_all (take n calls)) l.results ≡ drop (lent_all (take n calls)) c.args.results.now in subst P last rest;
    }
