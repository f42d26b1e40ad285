use Rattle.std.proofs.Common.{◌≡◌, ◌<◌, ◌^◌, map, drop}
use Rattle.bd_tree.specs.Misfit.{first_disorder}
use Rattle.bd_tree.specs.Tree.{first_some, nodes_of, total}
use Rattle.bd_tree.proofs.misfit.+first_disorder.Given as goal

abbrev pub invariant-loop-kid : goal.invariant-loop-kid
invariant-loop-kid l = record {
  told : first_some (map first_disorder (drop l.kid-index l.kid-items)) ≡ first_disorder l.node;
  small : total (map nodes_of (drop l.kid-index l.kid-items)) < 2 ^ 32;
}
