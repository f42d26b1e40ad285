use Rattle.std.proofs.Common.{◌≡◌, ◌+◌, count_by, drop}
use Rattle.run_texts.specs.Texts.{is_exhausted}
use Rattle.run_texts.proofs.summary.exhausted.Given as goal

abbrev pub invariant-loop-piece : goal.invariant-loop-piece
invariant-loop-piece l = l.count + count_by is_exhausted (drop l.piece-index l.pieces) ≡ count_by is_exhausted l.pieces
