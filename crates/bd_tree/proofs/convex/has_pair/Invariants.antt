use Rattle.std.proofs.Common.{◌≡◌}
use Rattle.bd_base.specs.Pairs.{is_before}
use Rattle.bd_tree.proofs.convex.has_pair.Given as goal

abbrev pub invariant-loop-p : goal.invariant-loop-p
invariant-loop-p l = is_before l.p-iterator l.i l.j ≡ is_before l.order l.i l.j
