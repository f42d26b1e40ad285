use Rattle.std.proofs.Common.{◌≡◌, ◌+◌, ◌≤◌, length, map}
use Rattle.bd_tree.specs.Products.{first_steps, steps_before}
use Rattle.bd_tree.specs.Tree.{steps_of}
use Rattle.bd_tree.proofs.ProductLemmas.{column}
use Rattle.bd_tree.proofs.SumLemmas.{sum_below}
use Rattle.bd_tree.proofs.node.ordered_pairs.Given as goal

abbrev pub invariant-loop-k : goal.invariant-loop-k
invariant-loop-k l = record {
  within : l.k ≤ length l.kids;
  sum : l.sum + sum_below l.k (steps_before l.order (map steps_of l.kids)) ≡ first_steps l.order (map steps_of l.kids) + sum_below l.k (column (map steps_of l.kids) l.order);
}
