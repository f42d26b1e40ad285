use Rattle.std.proofs.Common.{◌≡◌, ◌+◌, count_by, drop}
use Rattle.run_texts.specs.Texts.{is_spent}
use Rattle.run_texts.proofs.summary.spent.Given as goal

abbrev pub invariant-loop-piece : goal.invariant-loop-piece
invariant-loop-piece l = l.count + count_by is_spent (drop l.piece-index l.pieces) ≡ count_by is_spent l.pieces
