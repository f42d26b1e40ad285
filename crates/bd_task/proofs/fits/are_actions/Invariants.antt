use Rattle.std.proofs.Common.{◌↔◌, drop}
use Rattle.bd_task.specs.TaskView.{AreActions}
use Rattle.bd_task.proofs.fits.are_actions.Given as goal

abbrev pub invariant-loop-a : goal.invariant-loop-a
invariant-loop-a l = AreActions l.n (drop l.a-index l.actions) ↔ AreActions l.n l.actions
