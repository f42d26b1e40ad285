use Rattle.std.proofs.Common.{◌+◌, ◌*◌, ◌-◌, ◌≤◌, length}
use Rattle.bd_heur.specs.declared.join.Join.TheVariants.{Sum}
use Rattle.bd_values.specs.Kept.{IsReady}
use Rattle.bd_greedy.specs.Hunt.{IsHunt}
use Rattle.bd_greedy.proofs.proposing.propose.Given as goal

abbrev pub invariant-loop-entry : goal.invariant-loop-entry
invariant-loop-entry l = record {
  hunt : IsHunt l.task l.closed l.opened (length l.task.actions);
  ready : IsReady Sum l.task l.states;
  few : length l.closed ≤ 10_000;
}

abbrev pub decreases-loop-entry : goal.decreases-loop-entry
decreases-loop-entry l = (10_000 - length l.closed) * (length l.task.actions + 1) + length l.opened
