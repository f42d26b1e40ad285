use Rattle.std.proofs.Common.{length, take, sym, subst}
use Rattle.bd_report.specs.Range.{AreChildrenIn}
use Rattle.bd_report.proofs.RangeLemmas.{kids_in}
use Rattle.bd_report.proofs.tree.children_of.Goals as goal

pub returns-clause-within : goal.returns-clause-within
returns-clause-within c =
    subst (AreChildrenIn (length c.args.task.now.facts)) (sym c.loop-kid.invariant.made)
    (kids_in (length c.args.task.now.facts) c.args.task.now.actions c.init-init.ensures.task.actions (take c.loop-kid.kid-index c.args.kids.now))
