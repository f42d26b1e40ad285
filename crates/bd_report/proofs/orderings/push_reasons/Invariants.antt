use Rattle.std.proofs.Common.{◌≡◌, ◌++◌, drop, length}
use Rattle.bd_report.specs.Range.{AreReasonsIn}
use Rattle.bd_report.specs.TreeText.{each_reason}
use Rattle.bd_report.proofs.orderings.push_reasons.Given as goal

abbrev pub invariant-loop-reason : goal.invariant-loop-reason
invariant-loop-reason l = record {
  put : l.text.items ++ each_reason l.task l.margin l.i l.j (drop l.reason-index l.reasons) ≡ l.initial.text.items ++ each_reason l.task l.margin l.i l.j l.reasons;
  within : AreReasonsIn (length l.task.facts) (drop l.reason-index l.reasons);
}
