use Rattle.std.proofs.Common.{◌≡◌, [], length}
use Rattle.script_text.specs.Lines.{words}
use Rattle.script_text.specs.Reading.{list_until}
use Rattle.script_text.proofs.readers.list_until.Given as goal

abbrev pub invariant-loop-word : goal.invariant-loop-word
invariant-loop-word l = list_until l.names l.place l.key l.list.items (words l.rest) ≡ list_until l.names l.place l.key [] (words l.line)

abbrev pub decreases-loop-word : goal.decreases-loop-word
decreases-loop-word l = length (words l.rest)
