use Rattle.std.proofs.Common.{ℕ, List, ap, sym, ◌∙◌}
use Rattle.std.specs.Str.{bytes_eq}
use Rattle.bd_task.specs.declared.ground.Action.{Action}
use Rattle.plan_calls.specs.Finding.{call_text}
use Rattle.plan_calls.proofs.PlaceLemmas.{place-here, place-next}
use Rattle.plan_calls.proofs.finding.find.Goals as goal

pub returns-then-is_call : goal.returns-then-is_call
returns-then-is_call c =
    place-here (λ (a : Action). bytes_eq a.name (call_text c.args.call.now)) c.args.task.now.actions c.loop-a.a c.action.result.now c.action.ensures.action
    (ap (λ (z : List ℕ). bytes_eq z (call_text c.args.call.now)) (sym c.as_slice.ensures) ∙ sym c.is_call.ensures ∙ c.if-is_call.true) ∙ c.loop-a.invariant

pub loop-a-preserved : goal.loop-a-preserved
loop-a-preserved c =
    place-next (λ (a : Action). bytes_eq a.name (call_text c.args.call.now)) c.args.task.now.actions c.loop-a.a c.action.result.now c.action.ensures.action
    (ap (λ (z : List ℕ). bytes_eq z (call_text c.args.call.now)) (sym c.as_slice.ensures) ∙ sym c.is_call.ensures ∙ c.if-is_call.false) ∙ c.loop-a.invariant
