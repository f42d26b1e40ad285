use Rattle.std.proofs.Common.{◌≡◌, map, take, Some}
use Rattle.plan_calls.specs.Finding.{found}
use Rattle.plan_calls.proofs.listing.list_of.Given as goal

abbrev pub invariant-loop-i : goal.invariant-loop-i
invariant-loop-i l = map (λ c. found l.task.actions c) (take l.i l.calls) ≡ map (λ a. Some a) l.list.items
