use Rattle.std.proofs.Common.{sym, ◌∙◌, ap, arith, ◌≡◌, ◌+◌, None, drop}
use Rattle.seq_check.proofs.BreakLemmas.{break_from-runs, cost_of-more, stepped}
use Rattle.bd_task.specs.Valid.{break_from}
use Rattle.bd_task.specs.Run.{lacking}
use Rattle.seq_check.proofs.judging.judge.Goals as goal

pub loop-i-preserved : goal.loop-i-preserved
loop-i-preserved c =
    let lt = c.loop-i-test.true in
    let lacks : lacking c.action-action.result.now.pre c.loop-i.s ≡ None = cc in
    let task = c.args.task.now in
    let list = c.args.list.now in
    let a = c.action-action.result.now in
    let at = c.action-action.ensures.action in
    let is = c.index-list-i.is in
    let next = stepped a _ _ _ _ at lacks c.in_ok-step.ensures.ok in
    let more = break_from-runs task list c.loop-i.s (c.loop-i.i + 1) c.loop-i.i c.index-list-i.result a lt is at lacks in
    let cost = cost_of-more task list c.loop-i.s 0 c.loop-i.i c.index-list-i.result a lt is at in
    record {
      judged = ap (λ s. break_from task s (c.loop-i.i + 1 + 1) (drop (c.loop-i.i + 1) list)) next ∙ sym more ∙ c.loop-i.invariant.judged;
      cost = omega (arith, cost, c.loop-i.invariant.cost);
      small = omega (arith, c.action-action.ensures.fits.cheap, c.loop-i.invariant.small);
    }

pub returns-in-Some-clause-told : goal.returns-in-Some-clause-told
returns-in-Some-clause-told c = (omega arith, omega (arith, c.loop-i-test.true), c.in-Some.ensures.below _ c.action-action.ensures.fits.pre)

pub returns-clause-told : goal.returns-clause-told
returns-clause-told c = c.in-Some-first_lacking.ensures.below _ c.goal.ensures.fits
