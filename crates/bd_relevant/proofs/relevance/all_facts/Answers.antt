use Rattle.std.proofs.Common.{arith, subst}
use Rattle.bd_base.specs.Facts.{IsRising}
use Rattle.bd_relevant.proofs.AllLemmas.{all_matter}
use Rattle.bd_relevant.proofs.relevance.all_facts.Goals as goal

pub returns : goal.returns
returns c = all_matter c.args.task.now c.loop-f.facts c.init-start.ensures.task (subst IsRising c.init-start.ensures.set c.init-start.ensures.rising)
    (λ q lt. c.loop-f.invariant q (omega (arith, lt, c.facts-f-end.ensures.count, c.loop-f-test.false, c.loop-f.auto.f-end)))
