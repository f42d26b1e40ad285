use Rattle.std.proofs.Common.{◌≡◌, ◌*◌, ◌≤◌, length, take}
use Rattle.bd_base.specs.Bits.{row_of}
use Rattle.bd_base.proofs.places.count_places.Given as goal

abbrev pub invariant-loop-word : goal.invariant-loop-word
invariant-loop-word l = record {
  counted : l.n ≡ length (row_of 0 (take l.word-index l.words));
  few : l.n ≤ 64 * l.word-index;
}
