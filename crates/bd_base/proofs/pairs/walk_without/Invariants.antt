use Rattle.std.proofs.Common.{◌≡◌, ◌++◌}
use Rattle.bd_base.specs.Pairs.{without_pair}
use Rattle.bd_base.proofs.pairs.walk_without.Given as goal

abbrev pub invariant-loop-p : goal.invariant-loop-p
invariant-loop-p l = l.pairs.items ++ without_pair l.i l.j l.p-iterator ≡ without_pair l.i l.j l.order
