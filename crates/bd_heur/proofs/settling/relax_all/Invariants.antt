use Rattle.std.proofs.Common.{◌≤◌, drop}
use Rattle.bd_heur.specs.Settling.{IsSettling, weight}
use Rattle.bd_heur.proofs.settling.relax_all.Given as goal

abbrev pub invariant-loop-a : goal.invariant-loop-a
invariant-loop-a l = record {
  settling : IsSettling l.join l.task l.s l.table.items l.queue (drop l.a-index l.row);
  light : weight l.table.items l.queue ≤ weight l.initial.table.items l.initial.queue;
}
