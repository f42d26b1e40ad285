use Rattle.std.proofs.Common.{◌≡◌, ◌+◌, ◌-◌, ◌++◌}
use Rattle.bd_base.specs.Pairs.{before_each}
use Rattle.bd_base.proofs.pairs.push_row.Given as goal

abbrev pub invariant-loop-j : goal.invariant-loop-j
invariant-loop-j l = l.pairs.items ++ before_each l.i l.j (l.n - l.j) ≡ l.initial.pairs.items ++ before_each l.i (l.i + 1) (l.n - (l.i + 1))
