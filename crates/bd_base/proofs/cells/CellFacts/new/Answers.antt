use Rattle.std.proofs.Common.{refl}
use Rattle.bd_base.proofs.WordLemmas.{bits_zero}
use Rattle.bd_base.proofs.cells.CellFacts.new.Goals as goal

pub returns : goal.returns
returns c = rw (bits_zero 0) refl
