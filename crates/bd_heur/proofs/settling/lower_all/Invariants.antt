use Rattle.std.proofs.Common.{drop}
use Rattle.bd_heur.specs.Settling.{IsLowered}
use Rattle.bd_heur.proofs.settling.lower_all.Given as goal

abbrev pub invariant-loop-p : goal.invariant-loop-p
invariant-loop-p l = IsLowered l.value (drop l.p-index l.facts) l.facts l.initial.table.items l.initial.queue l.table.items l.queue
