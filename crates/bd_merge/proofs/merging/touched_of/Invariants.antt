use Rattle.std.proofs.Common.{map}
use Rattle.bd_tree.specs.Tree.{id_of}
use Rattle.bd_merge.proofs.TouchLemmas.{Told}
use Rattle.bd_merge.proofs.merging.touched_of.Given as goal

abbrev pub invariant-loop-at : goal.invariant-loop-at
invariant-loop-at l = Told l.window.lean l.order (map id_of l.window.kids) l.row l.at l.kids
