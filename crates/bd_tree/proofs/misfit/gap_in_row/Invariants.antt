use Rattle.std.proofs.Common.{◌≡◌, ◌+◌, ◌-◌}
use Rattle.std.specs.List.{find}
use Rattle.bd_base.specs.Pairs.{before_each}
use Rattle.bd_tree.specs.Misfit.{is_gap}
use Rattle.bd_tree.proofs.misfit.gap_in_row.Given as goal

abbrev pub invariant-loop-j : goal.invariant-loop-j
invariant-loop-j l = find (is_gap l.order) (before_each l.i l.j (l.n - l.j)) ≡ find (is_gap l.order) (before_each l.i (l.i + 1) (l.n - (l.i + 1)))
