use Rattle.bd_relevant.specs.Uses.{AreUses}
use Rattle.bd_relevant.proofs.relevance.uses_of.Given as goal

abbrev pub invariant-loop-a : goal.invariant-loop-a
invariant-loop-a l = AreUses l.task l.relevant l.a l.used l.deleted
