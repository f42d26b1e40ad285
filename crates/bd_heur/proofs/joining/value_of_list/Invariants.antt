use Rattle.std.proofs.Common.{◌≡◌, Some, drop}
use Rattle.bd_heur.specs.Relaxed.{value_of_all}
use Rattle.bd_heur.specs.Tables.{value_in}
use Rattle.bd_heur.proofs.joining.value_of_list.Given as goal

abbrev pub invariant-loop-p : goal.invariant-loop-p
invariant-loop-p l = value_of_all l.join (value_in l.table) l.value (drop l.p-index l.facts) ≡ value_of_all l.join (value_in l.table) (Some 0) l.facts
