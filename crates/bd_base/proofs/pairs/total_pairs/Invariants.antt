use Rattle.std.proofs.Common.{◌≡◌, ◌-◌, ◌++◌}
use Rattle.bd_base.specs.Pairs.{in_turn, total_order}
use Rattle.bd_base.proofs.pairs.total_pairs.Given as goal

abbrev pub invariant-loop-i : goal.invariant-loop-i
invariant-loop-i l = l.pairs.items ++ in_turn l.i (l.n - l.i) ≡ total_order l.n
