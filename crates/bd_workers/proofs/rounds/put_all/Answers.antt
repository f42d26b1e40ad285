use Rattle.std.proofs.Common.{◌∙◌, sym}
use Rattle.plan_core.specs.Core.{is_replacement}
use Rattle.plan_rebuild.proofs.GrowLemmas.{adds_here, adds_then}
use Rattle.bd_workers.proofs.WalkLemmas.{few_grown, true_before, true_grown, walks_none, walks_then, walks_whole}
use Rattle.bd_workers.proofs.rounds.put_all.Goals as goal

pub loop-pieces-init : goal.loop-pieces-init
loop-pieces-init g c = record {
  adds = adds_here is_replacement c.args.core.now;
  task = c.requires.task;
  few = c.requires.few;
  kept = c.requires.kept;
  walks = walks_none c.args.core.now c.args.nodes (g.W.Windows.left c.args.windows.now) _ c.new-pieces.ensures.items;
}

pub returns-in_err-put_next-clause-adds : goal.returns-in_err-put_next-clause-adds
returns-in_err-put_next-clause-adds g c = adds_then is_replacement _ c.loop-pieces.core _ c.loop-pieces.invariant.adds c.in_err-put_next.ensures.adds

pub returns-in_err-put_next-clause-kept : goal.returns-in_err-put_next-clause-kept
returns-in_err-put_next-clause-kept g c = true_before c.args.nodes _ c.args.core.now c.loop-pieces.core c.loop-pieces.invariant.adds.grows c.in_err-put_next.ensures.kept

pub loop-pieces-preserved : goal.loop-pieces-preserved
loop-pieces-preserved g c =
    let grows = c.in_ok-put_next.ensures.adds.grows in
    record {
      adds = adds_then is_replacement _ c.loop-pieces.core _ c.loop-pieces.invariant.adds c.in_ok-put_next.ensures.adds;
      task = c.loop-pieces.invariant.task ∙ sym grows.task;
      few = few_grown c.loop-pieces.core c.put_next.new.core grows c.loop-pieces.invariant.few;
      kept = true_grown c.args.nodes _ c.loop-pieces.core c.put_next.new.core grows c.in_ok-put_next.ensures.kept;
      walks = walks_then c.args.core.now c.loop-pieces.core c.put_next.new.core c.args.nodes
          (g.W.Windows.left c.args.windows.now) (g.W.Windows.left c.loop-pieces.windows) (g.W.Windows.left c.put_next.new.windows)
          _ _ _ c.loop-pieces.invariant.adds.grows c.loop-pieces.invariant.walks grows c.in_ok-put_next.ensures.walks;
    }

pub returns-clause-adds : goal.returns-clause-adds
returns-clause-adds g c = adds_then is_replacement _ c.loop-pieces.core _ c.loop-pieces.invariant.adds c.in_ok-put_next.ensures.adds

pub returns-clause-kept : goal.returns-clause-kept
returns-clause-kept g c = true_before c.args.nodes _ c.args.core.now c.loop-pieces.core c.loop-pieces.invariant.adds.grows c.in_ok-put_next.ensures.kept

pub returns-clause-pieces : goal.returns-clause-pieces
returns-clause-pieces g c =
    let grows = c.in_ok-put_next.ensures.adds.grows in
    walks_whole c.args.core.now c.put_next.new.core c.args.nodes (g.W.Windows.left c.args.windows.now) (g.W.Windows.left c.put_next.new.windows) _
    (c.in_ok-put_next.ensures.none c.if-branch.false)
    (walks_then c.args.core.now c.loop-pieces.core c.put_next.new.core c.args.nodes
    (g.W.Windows.left c.args.windows.now) (g.W.Windows.left c.loop-pieces.windows) (g.W.Windows.left c.put_next.new.windows)
    _ _ _ c.loop-pieces.invariant.adds.grows c.loop-pieces.invariant.walks grows c.in_ok-put_next.ensures.walks)
