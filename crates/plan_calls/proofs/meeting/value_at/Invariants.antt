use Rattle.std.proofs.Common.{◌≡◌, drop}
use Rattle.bd_ground.specs.Atoms.{filled}
use Rattle.bd_ground.specs.Instances.{value_at}
use Rattle.plan_calls.proofs.meeting.value_at.Given as goal

abbrev pub invariant-loop-v : goal.invariant-loop-v
invariant-loop-v l = value_at (drop l.v-index l.values) (filled l.args l.a) ≡ value_at l.values (filled l.args l.a)
