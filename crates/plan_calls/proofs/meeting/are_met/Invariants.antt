use Rattle.std.proofs.Common.{◌≡◌, drop}
use Rattle.std.specs.List.{list_all}
use Rattle.bd_ground.specs.Instances.{is_met}
use Rattle.plan_calls.proofs.meeting.are_met.Given as goal

abbrev pub invariant-loop-a : goal.invariant-loop-a
invariant-loop-a l = list_all (λ a. is_met l.domain l.problem l.args a) (drop l.a-index l.list) ≡ list_all (λ a. is_met l.domain l.problem l.args a) l.list
