use Rattle.std.proofs.Common.{◌≡◌, ◌+◌, ◌<◌, ◌≤◌}
use Rattle.bd_base.specs.Pairs.{total_order}
use Rattle.bd_base.proofs.TurnLemmas.{left}
use Rattle.bd_base.proofs.pairs.walk_is_total.Given as goal

abbrev pub invariant-loop-p : goal.invariant-loop-p
invariant-loop-p l = record {
  ahead : l.i < l.j;
  row : l.n ≤ l.j → l.n ≤ l.i + 1;
  to : l.order ≡ total_order l.n → l.p-iterator ≡ left l.i l.j l.n;
  back : l.p-iterator ≡ left l.i l.j l.n → l.order ≡ total_order l.n;
}
