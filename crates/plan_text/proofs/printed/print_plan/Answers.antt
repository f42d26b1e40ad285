use Rattle.std.proofs.Common.{◌≡◌, ℕ, ◌+◌, ◌<◌, List, ◌++◌, length, take, drop, sym, ap, subst, ◌∙◌, arith}
use Rattle.bd_base.specs.Causes.{TakesPart, appended}
use Rattle.bd_base.proofs.PutLemmas.{appended-append, TakesPart-longer, TakesPart-after}
use Rattle.plan_text.specs.Printed.{name_by, shown, plan_lines}
use Rattle.plan_text.proofs.PrintLemmas.{on_err, line_of, lines_more, lines_cut, all_next}
use Rattle.plan_text.proofs.printed.print_plan.Goals as goal

pub returns-in_err-put_line-clause-err : goal.returns-in_err-put_line-clause-err
returns-in_err-put_line-clause-err g c =
    let task = c.args.task.now in
    let list = c.args.list.now in
    let i = c.loop-action.action-index in
    let a = c.action-item.result in
    let line : shown c.as_slice.result.now ≡ line_of task a = ap shown (c.as_slice.ensures ∙ ap name_by (sym c.action.ensures.action)) in
    let more = ap (λ (bs : List ℕ). plan_lines task (take i list) ++ bs) line ∙ lines_more task list i a c.loop-action-test.true c.action-item.is in
    let Part : List ℕ → Type 0 = TakesPart (g.S.Sink.told c.args.sink.now) (g.S.Sink.told c.put_line.new.sink) in
    let part : Part (plan_lines task (take (i + 1) list)) = subst Part more (TakesPart-after _ _ _ (plan_lines task (take i list)) (shown c.as_slice.result.now) c.loop-action.invariant.told c.in_err-put_line.ensures.err) in
    on_err _ _ (subst Part (sym (lines_cut task (i + 1) list)) (TakesPart-longer _ _ _ (plan_lines task (drop (i + 1) list)) part))

pub loop-action-preserved : goal.loop-action-preserved
loop-action-preserved g c =
    let task = c.args.task.now in
    let list = c.args.list.now in
    let i = c.loop-action.action-index in
    let a = c.action-item.result in
    let line : shown c.as_slice.result.now ≡ line_of task a = ap shown (c.as_slice.ensures ∙ ap name_by (sym c.action.ensures.action)) in
    let more = ap (λ (bs : List ℕ). plan_lines task (take i list) ++ bs) line ∙ lines_more task list i a c.loop-action-test.true c.action-item.is in
    let later = c.in_ok-put_line.ensures.cause.later in
    record {
      told = c.in_ok-put_line.ensures.ok ∙ ap (λ z. appended z (shown c.as_slice.result.now)) c.loop-action.invariant.told ∙ appended-append (g.S.Sink.told c.args.sink.now) (plan_lines task (take i list)) (shown c.as_slice.result.now) ∙ ap (appended (g.S.Sink.told c.args.sink.now)) more;
      later = omega (arith, later, c.loop-action.invariant.later);
      below = all_next (λ x. x < length task.actions) list i c.loop-action-test.true c.loop-action.invariant.below;
    }
