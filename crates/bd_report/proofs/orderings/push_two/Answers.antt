use Rattle.std.proofs.Common.{length, sym, ◌∙◌, subst}
use Rattle.bd_report.specs.Range.{AreReasonsIn}
use Rattle.bd_report.proofs.RangeLemmas.{reasons_in}
use Rattle.bd_report.proofs.orderings.push_two.Goals as goal

pub push_reasons-requires : goal.push_reasons-requires
push_reasons-requires c =
    subst (AreReasonsIn (length c.args.task.now.facts)) (sym (c.deref.ensures.value ∙ c.in_ok-reasons.ensures))
    (reasons_in (length c.args.task.now.facts) c.args.first.now c.args.second.now c.requires)
