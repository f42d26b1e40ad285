use Rattle.std.proofs.Common.{◌≡◌, ◌≤◌, map}
use Rattle.bd_tree.specs.Tree.{steps_of}
use Rattle.bd_tree.proofs.ProductLemmas.{led}
use Rattle.bd_tree.proofs.SumLemmas.{sum_below}
use Rattle.bd_tree.proofs.node.steps_before.Given as goal

abbrev pub invariant-loop-i : goal.invariant-loop-i
invariant-loop-i l = record {
  within : l.i ≤ l.k;
  sum : l.sum ≡ sum_below l.i (led (map steps_of l.kids) l.order l.k);
}
