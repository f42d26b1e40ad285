use Rattle.std.proofs.Common.{◌≡◌, [], length}
use Rattle.script_text.specs.Lines.{words}
use Rattle.script_text.specs.Whole.{pairs_at}
use Rattle.script_text.proofs.offers.pairs_at.Given as goal

abbrev pub invariant-loop-word : goal.invariant-loop-word
invariant-loop-word l = pairs_at l.place l.pairs.items (words l.rest) ≡ pairs_at l.place [] (words l.line)

abbrev pub decreases-loop-word : goal.decreases-loop-word
decreases-loop-word l = length (words l.rest)
