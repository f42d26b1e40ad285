use Rattle.std.proofs.Common.{◌≡◌, drop}
use Rattle.bd_ground.specs.Instances.{things_of}
use Rattle.plan_calls.specs.Places.{shifted}
use Rattle.plan_calls.specs.Judging.{thing_named}
use Rattle.plan_calls.proofs.judging.thing_named.Given as goal

abbrev pub invariant-loop-o : goal.invariant-loop-o
invariant-loop-o l = shifted l.o (thing_named (drop l.o (things_of l.domain l.problem)) l.name) ≡ thing_named (things_of l.domain l.problem) l.name
