use Rattle.std.proofs.Common.{◌≡◌, true, length}
use Rattle.bd_base.specs.Pairs.{is_before}
use Rattle.bd_tree.specs.Order.{is_rising}
use Rattle.bd_tree.proofs.misfit.has_rising.Given as goal

abbrev pub invariant-loop-middle : goal.invariant-loop-middle
invariant-loop-middle l = record {
  rising : is_rising l.left ≡ true;
  same : is_before l.left l.i l.j ≡ is_before l.pairs l.i l.j;
}

abbrev pub decreases-loop-middle : goal.decreases-loop-middle
decreases-loop-middle l = length l.left
