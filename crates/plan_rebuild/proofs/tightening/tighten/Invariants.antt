use Rattle.bd_tree.specs.Tree.{pairs_of}
use Rattle.plan_core.specs.Core.{is_tightening}
use Rattle.plan_rebuild.specs.Grown.{Adds}
use Rattle.plan_rebuild.proofs.tightening.tighten.Given as goal

abbrev pub decreases-loop-alloc : goal.decreases-loop-alloc
decreases-loop-alloc l = pairs_of l.core.tree

abbrev pub invariant-loop-alloc : goal.invariant-loop-alloc
invariant-loop-alloc l = Adds is_tightening l.initial.core l.core
