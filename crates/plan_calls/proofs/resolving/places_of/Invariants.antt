use Rattle.std.proofs.Common.{take}
use Rattle.plan_calls.proofs.NotedLemmas.{AreNoted}
use Rattle.plan_calls.proofs.resolving.places_of.Given as goal

abbrev pub invariant-loop-a : goal.invariant-loop-a
invariant-loop-a l = AreNoted l.texts (take l.a l.task.actions) l.places.items
