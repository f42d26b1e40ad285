use Rattle.std.proofs.Common.{◌≡◌, [], length}
use Rattle.script_text.specs.Lines.{words}
use Rattle.script_text.specs.Whole.{ids_until}
use Rattle.script_text.proofs.offers.ids_until.Given as goal

abbrev pub invariant-loop-word : goal.invariant-loop-word
invariant-loop-word l = ids_until l.place l.key l.ids.items (words l.rest) ≡ ids_until l.place l.key [] (words l.line)

abbrev pub decreases-loop-word : goal.decreases-loop-word
decreases-loop-word l = length (words l.rest)
