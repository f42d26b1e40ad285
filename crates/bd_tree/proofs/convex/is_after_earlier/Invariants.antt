use Rattle.std.proofs.Common.{◌≡◌, ◌≤◌, length, drop}
use Rattle.std.specs.List.{enumerate_from}
use Rattle.bd_tree.specs.Convex.{is_after_some}
use Rattle.bd_tree.proofs.convex.is_after_earlier.Given as goal

abbrev pub invariant-loop-k : goal.invariant-loop-k
invariant-loop-k l = record {
  within : l.k ≤ length l.kids;
  rest : is_after_some l.order l.members (enumerate_from l.k (drop l.k l.kids)) l.j ≡ is_after_some l.order l.members (enumerate_from 0 l.kids) l.j;
}
