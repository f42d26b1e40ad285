use Rattle.std.proofs.Common.{◌≡◌, [], drop}
use Rattle.bd_subtask.specs.Level.{reach_from}
use Rattle.bd_subtask.proofs.marking.reach.Given as goal

abbrev pub invariant-loop-m : goal.invariant-loop-m
invariant-loop-m l = reach_from l.order l.row (drop l.m-index l.members) ≡ reach_from l.order [] l.members
