use Rattle.std.proofs.Common.{◌≡◌, take}
use Rattle.bd_base.proofs.row_building.rows_of.Given as goal

abbrev pub invariant-loop-p : goal.invariant-loop-p
invariant-loop-p l = l.builder ≡ take l.p-index l.pairs
