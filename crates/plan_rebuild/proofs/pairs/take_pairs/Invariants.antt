use Rattle.std.proofs.Common.{◌<◌, ◌≤◌, ◌^◌, length}
use Rattle.bd_tree.specs.Tree.{pairs_of}
use Rattle.bd_kept.specs.Kept.{IsKeptOf}
use Rattle.plan_core.specs.Core.{is_tightening}
use Rattle.plan_rebuild.specs.Grown.{Adds}
use Rattle.plan_rebuild.proofs.pairs.take_pairs.Given as goal

abbrev pub invariant-loop-alloc : goal.invariant-loop-alloc
invariant-loop-alloc l = record {
  adds : Adds is_tightening l.initial.core l.core;
  kept : IsKeptOf l.core.task l.core.tree l.kept;
  few : length l.kept.kids.items < 2 ^ 32;
  fewer : pairs_of l.core.tree ≤ pairs_of l.initial.core.tree;
}

abbrev pub decreases-loop-alloc : goal.decreases-loop-alloc
decreases-loop-alloc l = pairs_of l.core.tree
