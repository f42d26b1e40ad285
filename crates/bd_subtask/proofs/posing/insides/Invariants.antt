use Rattle.std.proofs.Common.{◌≡◌, true, map, take, drop, length}
use Rattle.std.specs.List.{list_all}
use Rattle.bd_links.specs.Sound.{are_below}
use Rattle.bd_subtask.specs.Subtask.{outside_of}
use Rattle.bd_subtask.proofs.posing.insides.Given as goal

abbrev pub invariant-loop-kid : goal.invariant-loop-kid
invariant-loop-kid l = record {
  made : l.sets.items ≡ map (outside_of l.task.actions l.own) (take l.kid-index l.kids);
  below : list_all (λ b. b) (map (are_below (length l.task.actions)) (drop l.kid-index l.kids)) ≡ true;
}
