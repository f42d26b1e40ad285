use Rattle.std.proofs.Common.{◌≡◌, ◌*◌, ltb, drop}
use Rattle.std.specs.List.{list_all}
use Rattle.bd_base.specs.Bits.{row_of}
use Rattle.bd_base.proofs.places.are_above.Given as goal

abbrev pub invariant-loop-w : goal.invariant-loop-w
invariant-loop-w l = list_all (ltb l.at) (row_of (64 * l.w) (drop l.w l.words)) ≡ list_all (ltb l.at) (row_of 0 l.words)
