use Rattle.std.proofs.Common.{◌≡◌, ◌↔◌}
use Rattle.bd_tree.proofs.node.same_pairs.Given as goal

abbrev pub invariant-loop-pair : goal.invariant-loop-pair
invariant-loop-pair l = (l.pair-iterator ≡ l.rest) ↔ (l.first ≡ l.second)
