use Rattle.std.proofs.Common.{◌≡◌}
use Rattle.bd_tree.specs.Misfit.{stray_after}
use Rattle.bd_tree.proofs.misfit.first_stray.Given as goal

abbrev pub invariant-loop-p : goal.invariant-loop-p
invariant-loop-p l = stray_after l.n l.before l.p-iterator ≡ stray_after l.n (0, 0) l.order
