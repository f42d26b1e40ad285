use Rattle.std.proofs.Common.{◌≡◌, length}
use Rattle.script_text.specs.Left.{nest_of}
use Rattle.script_text.specs.Lines.{words}
use Rattle.script_text.specs.Nodes.{root_at, no_nodes}
use Rattle.script_text.proofs.nodes.read_root.Given as goal

abbrev pub invariant-loop-word : goal.invariant-loop-word
invariant-loop-word l = root_at l.names l.place (nest_of l.nest) (words l.rest) ≡ root_at l.names l.place no_nodes (words l.line)

abbrev pub decreases-loop-word : goal.decreases-loop-word
decreases-loop-word l = length (words l.rest)
