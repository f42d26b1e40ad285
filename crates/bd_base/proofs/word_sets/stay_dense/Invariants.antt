use Rattle.std.proofs.Common.{◌≤◌}
use Rattle.bd_base.proofs.word_sets.stay_dense.Given as goal

abbrev pub invariant-loop-at : goal.invariant-loop-at
invariant-loop-at l = l.n ≤ l.at
