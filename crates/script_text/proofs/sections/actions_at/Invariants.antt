use Rattle.std.proofs.Common.{◌≡◌, ◌<◌, [], length}
use Rattle.script_text.specs.Lines.{worded}
use Rattle.script_text.specs.Reading.{actions_at}
use Rattle.script_text.proofs.sections.actions_at.Given as goal

abbrev pub invariant-loop-line : goal.invariant-loop-line
invariant-loop-line l = record {
  few : length l.names < l.at.number;
  same : actions_at l.facts l.names l.actions.items l.at.number (worded l.at.rest.now) ≡ actions_at l.facts [] [] l.start.number (worded l.start.rest.now);
}

abbrev pub decreases-loop-line : goal.decreases-loop-line
decreases-loop-line l = length (worded l.at.rest.now)
