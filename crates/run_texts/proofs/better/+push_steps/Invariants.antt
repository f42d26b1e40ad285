use Rattle.std.proofs.Common.{◌≡◌, ◌++◌, true, map, length, drop}
use Rattle.std.specs.List.{list_all}
use Rattle.bd_links.specs.Sound.{are_below}
use Rattle.bd_tree.specs.Tree.{listed_of, joined}
use Rattle.run_texts.specs.Texts.{plan_lines}
use Rattle.run_texts.proofs.better.+push_steps.Given as goal

abbrev pub invariant-loop-kid : goal.invariant-loop-kid
invariant-loop-kid l = record {
  below : list_all (λ b. b) (map (are_below (length l.task.actions)) (drop l.kid-index l.kid-items)) ≡ true;
  text : l.text.items ++ plan_lines l.task (joined (map listed_of (drop l.kid-index l.kid-items))) ≡ l.initial.text.items ++ plan_lines l.task (listed_of l.node);
}
