use Rattle.std.proofs.Common.{◌≤◌}
use Rattle.bd_tree.proofs.node.blocks_among.Given as goal

abbrev pub invariant-loop-node : goal.invariant-loop-node
invariant-loop-node l = l.n ≤ l.node-index
