use Rattle.std.proofs.Common.{◌≡◌, drop}
use Rattle.bd_ground.specs.Atoms.{filled_all, is_among}
use Rattle.bd_ground.proofs.filling.is_filled.Given as goal

abbrev pub invariant-loop-a : goal.invariant-loop-a
invariant-loop-a l = is_among l.g (filled_all l.args (drop l.a-index l.atoms)) ≡ is_among l.g (filled_all l.args l.atoms)
