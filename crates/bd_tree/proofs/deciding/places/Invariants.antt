use Rattle.std.proofs.Common.{◌≡◌, ◌++◌, drop}
use Rattle.std.specs.List.{enumerate_from}
use Rattle.bd_tree.specs.Deciding.{placed}
use Rattle.bd_tree.proofs.deciding.places.Given as goal

abbrev pub invariant-loop-i : goal.invariant-loop-i
invariant-loop-i l = placed l.rest.items ++ enumerate_from l.i (drop l.i l.kids) ≡ enumerate_from 0 l.kids
