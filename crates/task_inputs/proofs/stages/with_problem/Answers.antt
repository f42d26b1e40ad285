use Rattle.std.proofs.Common.{subst}
use Rattle.bd_base.specs.Shelf.{Told}
use Rattle.pddl_problem.specs.Whole.{over_of as problem_over}
use Rattle.task_inputs.specs.declared.answers.Part.TheVariants as part
use Rattle.task_inputs.specs.Inputs.{problem_step, problem_in, AfterPlan, Unless}
use Rattle.task_inputs.proofs.ReadLemmas.{by_text, without_text, lent, spans_after}
use Rattle.task_inputs.proofs.StepLemmas.{goes_on, ok_step}
use Rattle.task_inputs.proofs.StageLemmas.{by_error}
use Rattle.task_inputs.proofs.stages.with_problem.Goals as goal

pub returns-in-Ok-problem_from-clause-leads : goal.returns-in-Ok-problem_from-clause-leads
returns-in-Ok-problem_from-clause-leads g c = λ whole spans.
    let d = c.args.domain.now in
    let x = c.in-Ok-problem_from.problem in
    let plan = g.H.Shelf.tells c.args.shelf.now c.args.plan.now in
    let text = c.as_slice.result.now in
    by_text part.Problem (g.H.Shelf.tells c.args.shelf.now c.args.problem.now) whole (λ t. problem_step d t) (λ p r. AfterPlan d p plan whole r)
    text c.with_plan.result (lent _ _ _ c.as_slice.ensures c.in-Ok.ensures.read c.in-Ok.ensures.short)
    (goes_on (problem_step d text) (λ p r. AfterPlan d p plan whole r) x c.with_plan.result (ok_step part.Problem (problem_over d) (problem_in d text) x c.in-Ok-problem_from.ensures.first)
    (subst (λ (z : Told). Unless c.with_plan.result (AfterPlan d x z whole c.with_plan.result)) (c.in-Ok.ensures.told c.args.plan.now)
    (c.with_plan.ensures.leads whole (spans_after whole _ _ _ _ _ _ spans c.in-Ok.ensures.faults c.in-Ok.ensures.longs))))

pub returns-in-Ok-clause-leads : goal.returns-in-Ok-clause-leads
returns-in-Ok-clause-leads g c = λ whole spans.
    let d = c.args.domain.now in
    let plan = g.H.Shelf.tells c.args.shelf.now c.args.plan.now in
    let text = c.as_slice.result.now in
    by_text part.Problem (g.H.Shelf.tells c.args.shelf.now c.args.problem.now) whole (λ t. problem_step d t) (λ p r. AfterPlan d p plan whole r)
    text c.refused.result (lent _ _ _ c.as_slice.ensures c.in-Ok.ensures.read c.in-Ok.ensures.short)
    (by_error part.Problem (problem_over d) (problem_in d text) (λ p r. AfterPlan d p plan whole r) c.in-Err-problem_from.error c.refused.result c.refused.ensures c.in-Err-problem_from.ensures.first)

pub returns-clause-leads : goal.returns-clause-leads
returns-clause-leads g c = λ whole spans.
    without_text part.Problem (g.H.Shelf.tells c.args.shelf.now c.args.problem.now) whole (λ t. problem_step c.args.domain.now t) (λ p r. AfterPlan c.args.domain.now p (g.H.Shelf.tells c.args.shelf.now c.args.plan.now) whole r)
    c.in-Err.why (c.in-Err.ensures.none whole spans)
