use Rattle.std.proofs.Common.{◌≡◌, take, drop, length}
use Rattle.bd_ground.specs.Instances.{things_of}
use Rattle.plan_calls.specs.Places.{behind}
use Rattle.plan_calls.specs.Judging.{things_named}
use Rattle.plan_calls.proofs.judging.fill.Given as goal

abbrev pub invariant-loop-k : goal.invariant-loop-k
invariant-loop-k l =
    (length l.args ≡ length l.initial.args)
    × (behind (take l.k l.args) (things_named (things_of l.domain l.problem) (drop l.k l.names)) ≡ things_named (things_of l.domain l.problem) l.names)
