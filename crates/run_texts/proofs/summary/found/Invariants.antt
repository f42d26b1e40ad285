use Rattle.std.proofs.Common.{◌≡◌, ◌+◌, count_by, drop}
use Rattle.run_texts.specs.Texts.{is_found}
use Rattle.run_texts.proofs.summary.found.Given as goal

abbrev pub invariant-loop-piece : goal.invariant-loop-piece
invariant-loop-piece l = l.count + count_by is_found (drop l.piece-index l.pieces) ≡ count_by is_found l.pieces
