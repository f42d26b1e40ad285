use Rattle.std.proofs.Common.{subst, sym, ap, ◌∙◌, ◌+◌}
use Rattle.bd_heur.specs.Settling.{IsStart}
use Rattle.bd_heur.proofs.SettlingLemmas.{start_true, start_false}
use Rattle.bd_heur.proofs.settling.start.Goals.{then-has+in_ok-put+in_ok-push, else-has+in_ok-push-2}
use Rattle.bd_heur.proofs.settling.start.Goals as goal

pub loop-p-preserved : goal.loop-p-preserved
loop-p-preserved c = λ none. elim c.if-has.branch [
  | then-has+in_ok-put+in_ok-push w ↦
      subst (λ z. IsStart c.args.s.now (c.loop-p.p + 1) c.if-has.table.items z) (sym w.queue-is)
      (start_true c.args.s.now c.loop-p.p c.loop-p.table.items c.loop-p.queue w.put.new.self c.if-has.table.items (sym c.has.ensures ∙ w.if-has.true) w.in_ok-put.ensures
      (ap (λ z. z.items) w.table-is ∙ w.in_ok-push.ensures.items) (c.loop-p.invariant none))
  | else-has+in_ok-push-2 w ↦
      subst (λ z. IsStart c.args.s.now (c.loop-p.p + 1) c.if-has.table.items z) (sym w.queue-is)
      (start_false c.args.s.now c.loop-p.p c.loop-p.table.items c.loop-p.queue c.if-has.table.items (sym c.has.ensures ∙ w.if-has.false)
      (ap (λ z. z.items) w.table-is ∙ w.in_ok-push-2.ensures.items) (c.loop-p.invariant none))
]
