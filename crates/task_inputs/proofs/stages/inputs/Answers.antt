use Rattle.std.proofs.Common.{subst}
use Rattle.bd_base.specs.Shelf.{Told}
use Rattle.pddl_domain.specs.Whole.{over_of as domain_over}
use Rattle.task_inputs.specs.declared.answers.Part.TheVariants as part
use Rattle.task_inputs.specs.Inputs.{domain_step, domain_in, AfterProblem, Unless}
use Rattle.task_inputs.proofs.ReadLemmas.{by_text, without_text, lent, spans_after}
use Rattle.task_inputs.proofs.StepLemmas.{goes_on, ok_step}
use Rattle.task_inputs.proofs.StageLemmas.{by_error}
use Rattle.task_inputs.proofs.stages.inputs.Goals as goal

pub returns-in-Ok-domain_from-clause-leads : goal.returns-in-Ok-domain_from-clause-leads
returns-in-Ok-domain_from-clause-leads g c = λ whole spans.
    let x = c.in-Ok-domain_from.domain in
    let problem = g.H.Shelf.tells c.args.shelf.now c.args.problem.now in
    let plan = g.H.Shelf.tells c.args.shelf.now c.args.plan.now in
    let text = c.as_slice.result.now in
    by_text part.Domain (g.H.Shelf.tells c.args.shelf.now c.args.domain.now) whole (λ t. domain_step t) (λ d r. AfterProblem d problem plan whole r)
    text c.with_problem.result (lent _ _ _ c.as_slice.ensures c.in-Ok.ensures.read c.in-Ok.ensures.short)
    (goes_on (domain_step text) (λ d r. AfterProblem d problem plan whole r) x c.with_problem.result (ok_step part.Domain domain_over (domain_in text) x c.in-Ok-domain_from.ensures.first)
    (subst (λ (z : Told). Unless c.with_problem.result (AfterProblem x problem z whole c.with_problem.result)) (c.in-Ok.ensures.told c.args.plan.now)
    (subst (λ (z : Told). Unless c.with_problem.result (AfterProblem x z (g.H.Shelf.tells c.read_part.new.shelf c.args.plan.now) whole c.with_problem.result)) (c.in-Ok.ensures.told c.args.problem.now)
    (c.with_problem.ensures.leads whole (spans_after whole _ _ _ _ _ _ spans c.in-Ok.ensures.faults c.in-Ok.ensures.longs)))))

pub returns-in-Ok-clause-leads : goal.returns-in-Ok-clause-leads
returns-in-Ok-clause-leads g c = λ whole spans.
    let problem = g.H.Shelf.tells c.args.shelf.now c.args.problem.now in
    let plan = g.H.Shelf.tells c.args.shelf.now c.args.plan.now in
    let text = c.as_slice.result.now in
    by_text part.Domain (g.H.Shelf.tells c.args.shelf.now c.args.domain.now) whole (λ t. domain_step t) (λ d r. AfterProblem d problem plan whole r)
    text c.refused.result (lent _ _ _ c.as_slice.ensures c.in-Ok.ensures.read c.in-Ok.ensures.short)
    (by_error part.Domain domain_over (domain_in text) (λ d r. AfterProblem d problem plan whole r) c.in-Err-domain_from.error c.refused.result c.refused.ensures c.in-Err-domain_from.ensures.first)

pub returns-clause-leads : goal.returns-clause-leads
returns-clause-leads g c = λ whole spans.
    without_text part.Domain (g.H.Shelf.tells c.args.shelf.now c.args.domain.now) whole (λ t. domain_step t) (λ d r. AfterProblem d (g.H.Shelf.tells c.args.shelf.now c.args.problem.now) (g.H.Shelf.tells c.args.shelf.now c.args.plan.now) whole r)
    c.in-Err.why (c.in-Err.ensures.none whole spans)
