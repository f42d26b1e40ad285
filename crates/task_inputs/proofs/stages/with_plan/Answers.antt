use Rattle.task_inputs.specs.declared.answers.Part.TheVariants as part
use Rattle.task_inputs.specs.Inputs.{plan_step, calls_end}
use Rattle.std.proofs.Common.{◌≡◌}
use Rattle.task_inputs.proofs.ReadLemmas.{by_text, without_text, lent}
use Rattle.task_inputs.proofs.stages.with_plan.Goals as goal

pub returns-in-Ok-clause-leads : goal.returns-in-Ok-clause-leads
returns-in-Ok-clause-leads g c = λ whole spans.
    by_text part.Plan (g.H.Shelf.tells c.args.shelf.now c.args.plan.now) whole (λ t. plan_step c.args.domain.now c.args.problem.now t) (λ calls r. r ≡ calls_end c.args.domain.now c.args.problem.now calls)
    c.as_slice.result.now c.plan_judged.result (lent _ _ _ c.as_slice.ensures c.in-Ok.ensures.read c.in-Ok.ensures.short) c.plan_judged.ensures.judged

pub returns-in-Err-clause-leads : goal.returns-in-Err-clause-leads
returns-in-Err-clause-leads g c = λ whole spans.
    without_text part.Plan (g.H.Shelf.tells c.args.shelf.now c.args.plan.now) whole (λ t. plan_step c.args.domain.now c.args.problem.now t) (λ calls r. r ≡ calls_end c.args.domain.now c.args.problem.now calls)
    c.in-Err.why (c.in-Err.ensures.none whole spans)
