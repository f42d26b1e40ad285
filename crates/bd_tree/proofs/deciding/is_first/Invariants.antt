use Rattle.std.proofs.Common.{◌↔◌, drop}
use Rattle.bd_tree.specs.Deciding.{placed}
use Rattle.bd_tree.specs.Linearisation.{IsFirst}
use Rattle.bd_tree.proofs.deciding.is_first.Given as goal

abbrev pub invariant-loop-place : goal.invariant-loop-place
invariant-loop-place l = IsFirst l.order l.i (placed (drop l.place-index l.rest)) ↔ IsFirst l.order l.i (placed l.rest)
