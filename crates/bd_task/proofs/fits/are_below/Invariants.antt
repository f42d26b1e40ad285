use Rattle.std.proofs.Common.{◌↔◌}
use Rattle.bd_task.specs.TaskView.{AreBelow}
use Rattle.bd_task.proofs.fits.are_below.Given as goal

abbrev pub invariant-loop-f : goal.invariant-loop-f
invariant-loop-f l = AreBelow l.n l.f-iterator ↔ AreBelow l.n l.set
