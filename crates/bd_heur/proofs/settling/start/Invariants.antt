use Rattle.std.proofs.Common.{◌≡◌, []}
use Rattle.bd_heur.specs.Settling.{IsStart}
use Rattle.bd_heur.proofs.settling.start.Given as goal

abbrev pub invariant-loop-p : goal.invariant-loop-p
invariant-loop-p l = l.initial.queue ≡ [] → IsStart l.s l.p l.table.items l.queue
