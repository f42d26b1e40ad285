use Rattle.std.proofs.Common.{drop}
use Rattle.bd_merge.specs.Walked.{ComeInOrder}
use Rattle.bd_merge.proofs.standing.come_in_order.Given as goal

abbrev pub invariant-loop-node : goal.invariant-loop-node
invariant-loop-node l = ComeInOrder l.rest (drop l.node-index l.nodes) → ComeInOrder l.kids l.nodes
