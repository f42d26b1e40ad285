use Rattle.std.proofs.Common.{◌≡◌, drop}
use Rattle.std.specs.List.{enumerate_from}
use Rattle.bd_subtask.specs.Level.{with_others}
use Rattle.bd_subtask.proofs.posing.with_others.Given as goal

abbrev pub invariant-loop-set : goal.invariant-loop-set
invariant-loop-set l = record {
  at : l.i ≡ l.set-index;
  put : with_others l.at l.facts (enumerate_from l.i (drop l.set-index l.sets)) ≡ with_others l.at l.out (enumerate_from 0 l.sets);
}
