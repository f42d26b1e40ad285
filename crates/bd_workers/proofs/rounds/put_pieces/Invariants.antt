use Rattle.std.proofs.Common.{◌≡◌, length}
use Rattle.bd_workers.specs.Inner.{AreTrue, Walks}
use Rattle.bd_workers.proofs.rounds.put_pieces.Given as goal

abbrev pub invariant-loop-window : goal.invariant-loop-window
invariant-loop-window g l = record {
  same : l.core ≡ l.initial.core;
  kept : AreTrue l.initial.core.task l.view.nodes l.kept;
  walks : Walks l.initial.core l.initial.core l.view.nodes (g.W.Windows.left l.initial.windows) (g.W.Windows.left l.windows) l.initial.pieces.items l.pieces.items;
}

abbrev pub decreases-loop-window : goal.decreases-loop-window
decreases-loop-window g l = length (g.W.Windows.left l.windows)
