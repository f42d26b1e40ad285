use Rattle.std.proofs.Common.{◌≡◌, take, map}
use Rattle.plan_calls.specs.Finding.{found}
use Rattle.plan_calls.proofs.resolving.calls_of.Given as goal

abbrev pub invariant-loop-call : goal.invariant-loop-call
invariant-loop-call l = l.list.items ≡ map (λ c. found l.task.actions c) (take l.call-index l.calls)
