use Rattle.std.proofs.Common.{◌≡◌, [], drop}
use Rattle.std.specs.List.{enumerate_from}
use Rattle.bd_subtask.specs.Level.{with_rare}
use Rattle.bd_subtask.proofs.part.with_rare.Given as goal

abbrev pub invariant-loop-row : goal.invariant-loop-row
invariant-loop-row l = record {
  at : l.at ≡ l.row-index;
  put : with_rare l.marks l.most l.changed (enumerate_from l.at (drop l.row-index l.touched)) ≡ with_rare l.marks l.most [] (enumerate_from 0 l.touched);
}
