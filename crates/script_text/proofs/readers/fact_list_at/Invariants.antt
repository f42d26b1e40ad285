use Rattle.std.proofs.Common.{◌≡◌, [], length}
use Rattle.script_text.specs.Lines.{words}
use Rattle.script_text.specs.Reading.{list_at}
use Rattle.script_text.proofs.readers.fact_list_at.Given as goal

abbrev pub invariant-loop-word : goal.invariant-loop-word
invariant-loop-word l = list_at l.names l.place l.list.items (words l.rest) ≡ list_at l.names l.place [] (words l.line)

abbrev pub decreases-loop-word : goal.decreases-loop-word
decreases-loop-word l = length (words l.rest)
