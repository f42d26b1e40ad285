use Rattle.std.proofs.Common.{ℕ, ◌+◌, ◌*◌, ◌<◌}
use Rattle.bd_tree.specs.Deciding.{placed, nodes_in, StartsAt, AreRefused}
use Rattle.bd_tree.specs.Tree.{nodes_of}
use Rattle.bd_tree.proofs.deciding.+deciding.Given as goal

abbrev pub decreases-kids_linearise : goal.decreases-kids_linearise
decreases-kids_linearise l = 3 * nodes_in (placed l.rest.now) + 2

abbrev pub decreases-linearises : goal.decreases-linearises
decreases-linearises l = 3 * nodes_of l.node.now

abbrev pub decreases-starts_at : goal.decreases-starts_at
decreases-starts_at l = 3 * nodes_in (placed l.rest.now) + 1

abbrev pub invariant-kids_linearise-loop-at : goal.invariant-kids_linearise-loop-at
invariant-kids_linearise-loop-at l = record {
  refused : AreRefused l.asked.kids.now l.asked.order.now l.asked.list.now l.refused;
  none : (place : ℕ) → place < l.at → StartsAt l.asked.order.now (placed l.rest) l.back place → ⊥;
}
