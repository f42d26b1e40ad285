use Rattle.std.proofs.Common.{◌≡◌, ◌≤◌, length, map}
use Rattle.bd_tree.specs.Tree.{steps_of}
use Rattle.bd_tree.proofs.ProductLemmas.{row}
use Rattle.bd_tree.proofs.SumLemmas.{sum_below}
use Rattle.bd_tree.proofs.node.first_steps.Given as goal

abbrev pub invariant-loop-i : goal.invariant-loop-i
invariant-loop-i l = record {
  within : l.i ≤ length l.kids;
  sum : l.sum ≡ sum_below l.i (row (map steps_of l.kids) l.order);
}
