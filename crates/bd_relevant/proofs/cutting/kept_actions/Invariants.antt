use Rattle.bd_relevant.specs.Uses.{AreCutActions}
use Rattle.bd_relevant.proofs.cutting.kept_actions.Given as goal

abbrev pub invariant-loop-a : goal.invariant-loop-a
invariant-loop-a l = AreCutActions l.task l.relevant l.a l.numbers.items l.actions.items
