use Rattle.std.proofs.Common.{◌≡◌}
use Rattle.std.specs.Prelude.{slice_get}
use Rattle.bd_base.proofs.rows.Rows.at.Given as goal

abbrev pub invariant-loop-p : goal.invariant-loop-p
invariant-loop-p l = slice_get l.p-iterator l.left ≡ slice_get l.self l.k
