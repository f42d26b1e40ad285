use Rattle.std.proofs.Common.{◌≡◌, ◌++◌, drop}
use Rattle.bd_tree.specs.Deciding.{placed, positions}
use Rattle.bd_tree.proofs.deciding.set_of.Given as goal

abbrev pub invariant-loop-place : goal.invariant-loop-place
invariant-loop-place l = l.set.items ++ positions (placed (drop l.place-index l.rest)) ≡ positions (placed l.rest)
