use Rattle.std.proofs.Common.{◌≡◌, ◌++◌, map, drop, length, true}
use Rattle.std.specs.List.{list_all}
use Rattle.bd_tree.specs.Tree.{joined}
use Rattle.bd_links.specs.Sound.{are_below}
use Rattle.bd_report.specs.TreeText.{inner, node_lines}
use Rattle.bd_report.proofs.tree.«+push_node».Given as goal

abbrev pub invariant-loop-kid : goal.invariant-loop-kid
invariant-loop-kid l = record {
  below : list_all (λ b. b) (map (are_below (length l.task.actions)) (drop l.kid-index l.kid-items)) ≡ true;
  put : l.text.items ++ joined (map (λ k. node_lines l.task k (inner l.margin)) (drop l.kid-index l.kid-items)) ≡ l.initial.text.items ++ joined (map (λ k. node_lines l.task k (inner l.margin)) l.kid-items);
}
