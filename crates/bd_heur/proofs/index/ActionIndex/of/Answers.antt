use Rattle.std.proofs.Common.{ap, ◌∙◌, ℕ, List, length}
use Rattle.bd_base.specs.Facts.{has}
use Rattle.bd_heur.proofs.IndexLemmas.{needers_more, rows_of_more, has_more, has_last}
use Rattle.bd_heur.proofs.index.ActionIndex.of.Goals.{then-len-eq0+in_ok-push-2, else-len-eq0}
use Rattle.bd_heur.proofs.index.ActionIndex.of.Goals as goal

pub loop-a-preserved : goal.loop-a-preserved
loop-a-preserved c = record {
  rows = rows_of_more c.args.task.now c.loop-a.a c.action-action.result.now c.action-action.ensures.action c.action-action.ensures.fits c.loop-a.rows.items c.push.new.self.items c.in_ok-row_of_action.field-0
      c.loop-a.invariant.rows c.in_ok-push.ensures.items c.in_ok-row_of_action.ensures;
  needers = needers_more c.args.task.now c.loop-a.a c.action-action.result.now c.action-action.ensures.action c.action-action.ensures.fits c.loop-a.needers.items c.put_rows.new.rows.items
      c.loop-a.free.items c.if-len-eq0.free.items c.loop-a.invariant.needers c.in_ok-put_rows.ensures.len c.in_ok-put_rows.ensures.kept c.in_ok-put_rows.ensures.put
      (elim c.if-len-eq0.branch [
        | then-len-eq0+in_ok-push-2 w ↦ λ x i. ap (λ z. has z x) (ap (λ z. z.items) w.free-is ∙ w.in_ok-push-2.ensures.items) ∙ has_more c.loop-a.free.items c.loop-a.a x i
        | else-len-eq0 w ↦ λ x i. ap (λ z. has z.items x) w.free-is ∙ i
      ])
      (elim c.if-len-eq0.branch [
        | then-len-eq0+in_ok-push-2 w ↦ λ none. ap (λ z. has z c.loop-a.a) (ap (λ z. z.items) w.free-is ∙ w.in_ok-push-2.ensures.items) ∙ has_last c.loop-a.free.items c.loop-a.a
        | else-len-eq0 w ↦ λ none. absurd (w.if-len-eq0.false (c.len.ensures ∙ ap (λ (z : List ℕ). length z) none))
      ]);
}
