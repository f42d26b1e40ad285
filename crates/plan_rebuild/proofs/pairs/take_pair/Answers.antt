use Rattle.std.proofs.Common.{◌∙◌, Option, IfSome, subst}
use Rattle.bd_base.specs.Pairs.{without_pair}
use Rattle.bd_task.specs.TaskView.{TaskView}
use Rattle.bd_kept.specs.Kept.{IsKept}
use Rattle.bd_tight.specs.declared.gain.Gain.{Gain}
use Rattle.plan_rebuild.specs.Taking.{TakesPair}
use Rattle.plan_core.specs.Core.{is_tightening}
use Rattle.plan_rebuild.proofs.GrowLemmas.{adds_here}
use Rattle.plan_rebuild.proofs.PairLemmas.{gain_same, kept_same, kept_then}
use Rattle.plan_rebuild.proofs.pairs.take_pair.Goals as goal

pub follow-requires-clause-kept : goal.follow-requires-clause-kept
follow-requires-clause-kept c = kept_same c.args.core.now.task c.task.result.now c.args.core.now.tree c.tree.result.now c.args.kept.now c.task.ensures c.tree.ensures.tree c.requires.kept

pub follow-requires-clause-gain : goal.follow-requires-clause-gain
follow-requires-clause-gain c = gain_same c.args.core.now.task c.task.result.now c.args.core.now.tree c.tree.result.now c.args.pair c.task.ensures c.tree.ensures.tree c.requires.gain

pub returns-in_ok-take_gain-in-Some-clause-kept : goal.returns-in_ok-take_gain-in-Some-clause-kept
returns-in_ok-take_gain-in-Some-clause-kept c =
    kept_then c.args.core.now c.take_gain.new.core c.args.pair c.in-Some.gain c.follow.new.self
    (subst (λ (o : Option Gain). IfSome o (λ gain. TakesPair c.args.core.now c.args.pair gain)) c.in-Some.is c.in_ok-gain_of_pair.ensures)
    c.in_ok-take_gain-in-Some.ensures.taken
    (λ id kids order e. subst (λ (z : TaskView). IsKept z kids (without_pair c.args.pair.0 c.args.pair.1 order) c.follow.new.self) c.task.ensures (c.in_ok-follow-in-Some.ensures.after id kids order (c.tree.ensures.tree ∙ e)))

pub returns-in_err-gain_of_pair-clause-adds : goal.returns-in_err-gain_of_pair-clause-adds
returns-in_err-gain_of_pair-clause-adds c = adds_here is_tightening c.args.core.now

pub returns-in_err-follow-in-Some-clause-adds : goal.returns-in_err-follow-in-Some-clause-adds
returns-in_err-follow-in-Some-clause-adds c = adds_here is_tightening c.args.core.now

pub returns-in-None-clause-adds : goal.returns-in-None-clause-adds
returns-in-None-clause-adds c = adds_here is_tightening c.args.core.now
