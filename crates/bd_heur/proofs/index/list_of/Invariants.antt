use Rattle.std.proofs.Common.{◌≡◌, ◌++◌}
use Rattle.bd_heur.proofs.index.list_of.Given as goal

abbrev pub invariant-loop-f : goal.invariant-loop-f
invariant-loop-f l = l.list.items ++ l.f-iterator ≡ l.set
