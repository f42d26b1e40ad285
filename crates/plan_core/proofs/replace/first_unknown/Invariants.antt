use Rattle.std.proofs.Common.{◌≡◌, drop}
use Rattle.plan_core.specs.Replies.{unknown_of}
use Rattle.plan_core.proofs.replace.first_unknown.Given as goal

abbrev pub invariant-loop-action : goal.invariant-loop-action
invariant-loop-action l = unknown_of l.count (drop l.action-index l.list) ≡ unknown_of l.count l.list
