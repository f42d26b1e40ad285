use Rattle.std.proofs.Common.{◌≡◌, ◌≤◌, ◌++◌, ◌-◌}
use Rattle.bd_gen.specs.Errands.{road_line, texts_to}
use Rattle.bd_gen.proofs.lines.push_roads.Given as goal

abbrev pub invariant-loop-i : goal.invariant-loop-i
invariant-loop-i l = (l.text.items ≡ l.initial.text.items ++ texts_to road_line l.i) × (l.i ≤ l.n)

abbrev pub decreases-loop-i : goal.decreases-loop-i
decreases-loop-i l = l.n - l.i
