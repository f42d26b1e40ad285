-- What the code's lines are to the reading.
use Rattle.script_text.specs.Lines.{worded}
use Rattle.script_text.specs.Reading.{Left}
use Rattle.script_text.specs.Rest.{Rest, script_with}
use Rattle.script_text.specs.Nodes.{Open, Nest}
use Rattle.bd_task.specs.TaskView.{TaskView}
use Rattle.script_text.specs.declared.lines.Lines.{Lines}
use Rattle.script_text.specs.declared.script.Script.{Script}
use Rattle.script_text.specs.declared.nodes.Level.{Level}
use Rattle.script_text.specs.declared.nodes.Levels.{Levels}
use Rattle.script_text.specs.declared.sections.After.{After}
use Rattle.script_text.specs.declared.sections.Parts.{Parts}
use Rattle.std.specs.Option.{option_map}
use Rattle.std.specs.Prelude.{map, reverse}

abbrev pub left : Lines → Left
left l = (l.number, worded l.rest.now)

abbrev pub task_of : Parts → TaskView
task_of p = record { facts = p.facts; actions = p.actions.items; init = p.init; goal = p.goal }

abbrev pub open_of : Level → Open
open_of o = record { id = o.id; kids = o.kids.items; pairs = option_map (λ p. p.items) o.pairs }

-- the open blocks from the innermost on
abbrev pub nest_of : Levels → Nest
nest_of n = record { inner = open_of n.inner; outer = map open_of (reverse n.outer.items) }

abbrev pub rest_of : After → Rest
rest_of r = record { start = r.start; start_line = r.start_line; stop = r.stop; offers = r.offers.items }

abbrev pub script_of : Parts → Script
script_of p = script_with (task_of p) p.plan (rest_of p.after)
