use Rattle.std.proofs.Common.{◌≡◌, ◌≤◌, None, length, IfErr, IfOk}
use Rattle.plan_rebuild.specs.Rebuilds.{GrowsRightly}
use Rattle.bd_workers.specs.Inner.{AreTrue}
use Rattle.bd_workers.specs.Turn.{IsOver}
use Rattle.bd_workers.proofs.TurnLemmas.{turns_left}
use Rattle.bd_workers.proofs.improving.improved.Given as goal

abbrev pub invariant-loop-proposer : goal.invariant-loop-proposer
invariant-loop-proposer g l = record {
  step : GrowsRightly l.fn.core l.turn.core;
  few : length l.turn.core.task.facts ≤ 262_144;
  over : IfOk l.turn.pieces (λ ps. (l.turn.end ≡ None → ⊥) → IsOver l.setup l.turn.core ps.items l.turn.end);
  kept : AreTrue l.turn.core.task l.setup.nodes l.kept;
  memory : IfErr l.turn.pieces (λ _. l.turn.end ≡ None);
}

abbrev pub decreases-loop-proposer : goal.decreases-loop-proposer
decreases-loop-proposer g l = turns_left l.turn.core l.turn.pieces l.turn.end
