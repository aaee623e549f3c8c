use Rattle.std.proofs.Common.{ℕ, ◌*◌, List, length, ap, ◌∙◌}
use Rattle.std.proofs.lemmas.Result.{err_from_is_err_and}
use Rattle.model.specs.Sets.{in_bits}
use Rattle.image.specs.Means.{means, Opened}
use Rattle.workspace.specs.Refusals.{sizes, room}
use Rattle.workspace.specs.Questions.{zeroed}
use Rattle.plan.proofs.Flushes.{Done, done, refused}
use Rattle.plan.proofs.flush.plan_opened.Goals as goal

pub returns-in_err-order_changed : goal.returns-in_err-order_changed
returns-in_err-order_changed g c =
    let p = err_from_is_err_and c.from_residual.result c.from_residual.ensures.1 in
    let e = c.in_err-order_changed.ensures in
    let b = e.anew in
    rw (p.1, p.2)
    (record {
      answer = λ bytes o. refused bytes (in_bits 8 c.args.changed.now) _ _ _ (means c.args.image) o.sound.accepted o.graph_of b.answer;
      stack = λ _ _. b.stack;
      table = λ _ _. b.table;
      res = λ _ _. b.res;
      marks = e.marks;
      limit = c.order_changed.ensures.limit;
      right = λ _ _. tt;
    })

pub returns : goal.returns
returns g c =
    let e = c.in_ok-order_changed.ensures in
    let a = e.anew in
    let d : (bytes : List ℕ) → Opened bytes c.args.image → Done bytes (in_bits 8 c.args.changed.now) (sizes (length c.args.stack.now) (length c.args.table.now) (g.M.VisitMap.limit c.args.marks.now)) (length c.args.res.now) _ c.args.res.now _ =
    λ bytes o. done _ _ _ _ _ _ _ (means c.args.image) o.sound.lawful o.sound.accepted o.graph_of a.answer.0 a.answer.1 a.res in
    record {
      answer = λ bytes o. (d bytes o).answer;
      stack = λ _ o. a.stack ∙ ap (λ m. zeroed (room m.nodes m.edges) c.args.stack.now) o.graph_of;
      table = λ _ o. a.table ∙ ap (λ m. zeroed (4 * m.nodes) c.args.table.now) o.graph_of;
      res = λ bytes o. (d bytes o).result;
      marks = e.marks;
      limit = e.limit;
      right = λ bytes o. (d bytes o).right;
    }
