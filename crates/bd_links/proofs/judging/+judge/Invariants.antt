use Rattle.std.proofs.Common.{◌≡◌, map, take, length, true, drop}
use Rattle.std.specs.List.{list_all}
use Rattle.bd_links.specs.Faults.{first_of}
use Rattle.bd_links.specs.Sound.{child_of, summary_of, are_below, Summary}
use Rattle.bd_links.proofs.judging.+judge.Given as goal

abbrev pub invariant-loop-kid : goal.invariant-loop-kid
invariant-loop-kid l = record {
  made : l.children.items ≡ map (child_of l.task.actions) (take l.kid-index l.kid-items);
  below : list_all (λ b. b) (map (are_below (length l.task.actions)) (drop l.kid-index l.kid-items)) ≡ true;
  fault : first_of (map (λ (k : Summary). k.fault) (map (summary_of l.task.actions) (drop l.kid-index l.kid-items))) ≡ first_of (map (λ (k : Summary). k.fault) (map (summary_of l.task.actions) l.kid-items));
}
