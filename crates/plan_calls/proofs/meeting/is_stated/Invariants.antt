use Rattle.std.proofs.Common.{◌≡◌, drop, []}
use Rattle.bd_ground.specs.Atoms.{filled, filled_all, is_among}
use Rattle.plan_calls.proofs.meeting.is_stated.Given as goal

abbrev pub invariant-loop-b : goal.invariant-loop-b
invariant-loop-b l = is_among (filled l.args l.a) (filled_all [] (drop l.b-index l.list)) ≡ is_among (filled l.args l.a) (filled_all [] l.list)
