use Rattle.std.proofs.Common.{◌≡◌, map, take, length, true, drop}
use Rattle.std.specs.List.{list_all}
use Rattle.bd_links.specs.Sound.{child_of, are_below}
use Rattle.bd_links.proofs.whole.+as_child.Given as goal

abbrev pub invariant-loop-kid : goal.invariant-loop-kid
invariant-loop-kid l = record {
  made : l.children.items ≡ map (child_of l.task.actions) (take l.kid-index l.kid-items);
  below : list_all (λ b. b) (map (are_below (length l.task.actions)) (drop l.kid-index l.kid-items)) ≡ true;
}
