use Rattle.std.proofs.Common.{◌≡◌, drop}
use Rattle.plan_calls.specs.Places.{shifted}
use Rattle.plan_calls.specs.Finding.{found}
use Rattle.plan_calls.proofs.finding.find.Given as goal

abbrev pub invariant-loop-a : goal.invariant-loop-a
invariant-loop-a l = shifted l.a (found (drop l.a l.task.actions) l.call) ≡ found l.task.actions l.call
