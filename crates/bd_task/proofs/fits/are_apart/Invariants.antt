use Rattle.std.proofs.Common.{◌≡◌}
use Rattle.bd_task.specs.TaskView.{are_apart}
use Rattle.bd_task.proofs.fits.are_apart.Given as goal

abbrev pub invariant-loop-f : goal.invariant-loop-f
invariant-loop-f l = are_apart l.f-iterator l.right ≡ are_apart l.left l.right
