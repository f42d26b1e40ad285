use Rattle.std.proofs.Common.{[]}
use Rattle.bd_heur.specs.Settling.{IsSettling, weight}
use Rattle.bd_heur.proofs.settling.values.Given as goal

abbrev pub invariant-loop-waiting : goal.invariant-loop-waiting
invariant-loop-waiting l = IsSettling l.join l.task l.s l.table.items l.queue []

abbrev pub decreases-loop-waiting : goal.decreases-loop-waiting
decreases-loop-waiting l = weight l.table.items l.queue
