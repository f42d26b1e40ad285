use Rattle.std.proofs.Common.{◌≡◌, ◌≤◌, [], length}
use Rattle.plan_core.specs.Core.{is_replacement}
use Rattle.plan_rebuild.specs.Grown.{Adds}
use Rattle.bd_workers.specs.Inner.{AreTrue, Walks}
use Rattle.bd_workers.proofs.rounds.put_all.Given as goal

abbrev pub invariant-loop-pieces : goal.invariant-loop-pieces
invariant-loop-pieces g l = record {
  adds : Adds is_replacement l.initial.core l.core;
  task : l.task ≡ l.core.task;
  few : length l.core.task.facts ≤ 262_144;
  kept : AreTrue l.core.task l.nodes l.kept;
  walks : Walks l.initial.core l.core l.nodes (g.W.Windows.left l.initial.windows) (g.W.Windows.left l.windows) [] l.pieces.items;
}

abbrev pub decreases-loop-pieces : goal.decreases-loop-pieces
decreases-loop-pieces g l = length (g.W.Windows.left l.windows)
