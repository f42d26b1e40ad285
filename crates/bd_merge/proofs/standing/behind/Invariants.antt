use Rattle.std.proofs.Common.{◌≡◌, ◌++◌, List, length}
use Rattle.bd_tree.specs.declared.node.Node.{Node}
use Rattle.bd_merge.proofs.standing.behind.Given as goal

abbrev pub invariant-loop-first : goal.invariant-loop-first
invariant-loop-first l = (before : List Node) × (l.kids ≡ before ++ l.left)

abbrev pub decreases-loop-first : goal.decreases-loop-first
decreases-loop-first l = length l.left
