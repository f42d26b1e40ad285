use Rattle.std.proofs.Common.{◌≤◌}
use Rattle.bd_base.proofs.word_sets.used.Given as goal

abbrev pub invariant-loop-word : goal.invariant-loop-word
invariant-loop-word l = l.n ≤ l.word-index
