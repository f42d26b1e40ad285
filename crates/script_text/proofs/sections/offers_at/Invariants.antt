use Rattle.std.proofs.Common.{◌≡◌, [], length}
use Rattle.script_text.specs.Lines.{worded}
use Rattle.script_text.specs.Whole.{offers_at}
use Rattle.script_text.proofs.sections.offers_at.Given as goal

abbrev pub invariant-loop-line : goal.invariant-loop-line
invariant-loop-line l = offers_at l.names l.offers.items l.at.number (worded l.at.rest.now) ≡ offers_at l.names [] l.start.number (worded l.start.rest.now)

abbrev pub decreases-loop-line : goal.decreases-loop-line
decreases-loop-line l = length (worded l.at.rest.now)
