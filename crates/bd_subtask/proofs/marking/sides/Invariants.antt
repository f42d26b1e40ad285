use Rattle.std.proofs.Common.{◌≡◌, ◌++◌, drop, map}
use Rattle.std.specs.List.{enumerate_from}
use Rattle.bd_subtask.specs.Level.{stands_behind, stands_in_front}
use Rattle.bd_subtask.proofs.marking.sides.Given as goal

abbrev pub invariant-loop-mark : goal.invariant-loop-mark
invariant-loop-mark l = record {
  at : l.at ≡ l.mark-index;
  front : l.front.items ++ map (stands_in_front l.lean l.order l.members) (enumerate_from l.at (drop l.mark-index l.carried)) ≡ map (stands_in_front l.lean l.order l.members) (enumerate_from 0 l.carried);
  back : l.back.items ++ map (stands_behind l.lean l.order l.members) (enumerate_from l.at (drop l.mark-index l.carried)) ≡ map (stands_behind l.lean l.order l.members) (enumerate_from 0 l.carried);
}
