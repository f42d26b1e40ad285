use Rattle.std.proofs.Common.{◌≡◌, ◌+◌, map, drop}
use Rattle.bd_tree.specs.Tree.{steps_of, total}
use Rattle.bd_workers.proofs.offering.steps_among.Given as goal

abbrev pub invariant-loop-node : goal.invariant-loop-node
invariant-loop-node l = l.sum + total (map steps_of (drop l.node-index l.nodes)) ≡ total (map steps_of l.nodes)
