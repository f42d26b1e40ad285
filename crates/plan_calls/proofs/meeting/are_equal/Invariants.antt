use Rattle.std.proofs.Common.{◌≡◌, drop}
use Rattle.std.specs.List.{list_all}
use Rattle.bd_ground.specs.Atoms.{is_same}
use Rattle.plan_calls.proofs.meeting.are_equal.Given as goal

abbrev pub invariant-loop-s : goal.invariant-loop-s
invariant-loop-s l = list_all (λ s. is_same l.args s) (drop l.s-index l.list) ≡ list_all (λ s. is_same l.args s) l.list
