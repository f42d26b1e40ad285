use Rattle.std.proofs.Common.{◌≡◌, take}
use Rattle.bd_task.proofs.ground.copies_of_actions.Given as goal

abbrev pub invariant-loop-action : goal.invariant-loop-action
invariant-loop-action l = l.copies.items ≡ take l.action-index l.actions
