use Rattle.std.proofs.Common.{◌≡◌, ◌++◌}
use Rattle.bd_base.proofs.pairs.listed_with.Given as goal

abbrev pub invariant-loop-p : goal.invariant-loop-p
invariant-loop-p l = l.pairs.items ++ l.p-iterator ≡ l.rows
