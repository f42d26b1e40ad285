use Rattle.std.proofs.Common.{◌≡◌, ◌-◌}
use Rattle.std.specs.List.{find}
use Rattle.bd_base.specs.Pairs.{in_turn}
use Rattle.bd_tree.specs.Misfit.{is_gap, first_gap}
use Rattle.bd_tree.proofs.GapLemmas.{RowsLeft}
use Rattle.bd_tree.proofs.misfit.first_gap.Given as goal

abbrev pub invariant-loop-i : goal.invariant-loop-i
invariant-loop-i l = record {
  gap : find (is_gap l.order) (in_turn l.i (l.n - l.i)) ≡ first_gap l.n l.order;
  left : RowsLeft l.order l.i l.rest;
}
