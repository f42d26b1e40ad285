use Rattle.std.proofs.Common.{◌≡◌, ◌+◌, ◌++◌, drop}
use Rattle.bd_tree.specs.Chain.{steps_from}
use Rattle.bd_tree.proofs.tree.chain_root.Given as goal

abbrev pub invariant-loop-action : goal.invariant-loop-action
invariant-loop-action l = (l.id ≡ l.action-index + 1) × (l.kids.items ++ steps_from l.id (drop l.action-index l.list) ≡ steps_from 1 l.list)
