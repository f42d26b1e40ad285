use Rattle.std.proofs.Common.{◌≡◌, ℕ}
use Rattle.bd_task.specs.TaskView.{AreBelow}
use Rattle.bd_task.specs.Run.{lacking}
use Rattle.seq_check.proofs.judging.first_lacking.Given as goal

abbrev pub invariant-loop-f : goal.invariant-loop-f
invariant-loop-f l = record {
  first : lacking l.f-iterator l.s ≡ lacking l.facts l.s;
  below : (n : ℕ) → AreBelow n l.facts → AreBelow n l.f-iterator;
}
