use Rattle.bd_heur.specs.Index.{AreRows, AreNeeders}
use Rattle.bd_heur.proofs.index.ActionIndex.of.Given as goal

abbrev pub invariant-loop-a : goal.invariant-loop-a
invariant-loop-a l = record {
  rows : AreRows l.task l.a l.rows.items;
  needers : AreNeeders l.task l.a l.needers.items l.free.items;
}
