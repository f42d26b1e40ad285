use Rattle.plan_rebuild.proofs.StepLemmas.{step_here, step_then, step_tightens, step_replaces}
use Rattle.bd_workers.proofs.turns.pieces_of_turn.Goals as goal

pub returns-then-closed-clause-step : goal.returns-then-closed-clause-step
returns-then-closed-clause-step g c = step_here c.args.core.now

pub returns-in_err-tighten-clause-step : goal.returns-in_err-tighten-clause-step
returns-in_err-tighten-clause-step g c = step_then _ c.rebuild.new.core _ c.rebuild.ensures.grows (step_tightens _ _ c.in_err-tighten.ensures.adds)

pub returns-then-closed-2-clause-step : goal.returns-then-closed-2-clause-step
returns-then-closed-2-clause-step g c = step_then _ c.rebuild.new.core _ c.rebuild.ensures.grows (step_tightens _ _ c.in_ok-tighten.ensures.adds)

pub returns-clause-step : goal.returns-clause-step
returns-clause-step g c =
    step_then _ c.tighten.new.core _ (step_then _ c.rebuild.new.core _ c.rebuild.ensures.grows (step_tightens _ _ c.in_ok-tighten.ensures.adds)) (step_replaces _ _ c.round.ensures.adds)
