use Rattle.std.proofs.Common.{◌≡◌, ◌++◌, drop, map}
use Rattle.bd_tree.specs.Tree.{id_of}
use Rattle.bd_subtask.specs.Level.{is_in}
use Rattle.bd_subtask.proofs.marking.carried.Given as goal

abbrev pub invariant-loop-kid : goal.invariant-loop-kid
invariant-loop-kid l = l.marks.items ++ map (is_in (map id_of l.window.kids)) (drop l.kid-index l.kids) ≡ map (is_in (map id_of l.window.kids)) l.kids
