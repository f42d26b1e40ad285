use Rattle.std.proofs.Common.{◌≡◌, ◌*◌, ◌-◌, min, length}
use Rattle.bd_base.specs.Bits.{row_of, upto}
use Rattle.bd_base.proofs.places.fill_run.Given as goal

abbrev pub invariant-loop-w : goal.invariant-loop-w
invariant-loop-w l = record {
  made : row_of 0 l.words.items ≡ upto l.from (min (64 * l.w) l.to - l.from);
  len : length l.words.items ≡ l.w;
}
