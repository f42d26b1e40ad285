use Rattle.std.proofs.Common.{ap, ◌∙◌, subst}
use Rattle.bd_base.specs.Facts.{IsRising, minus}
use Rattle.bd_relevant.proofs.MissingLemmas.{none_missing}
use Rattle.bd_relevant.proofs.relevance.missing_of.Goals as goal

pub returns : goal.returns
returns c = λ none.
    none_missing c.args.task.now c.args.relevant.now c.args.used c.args.deleted.now c.minus.new.self c.minus-2.new.self c.minus-3.new.self c.minus-4.new.self c.join.new.self
    c.requires.uses
    c.minus.ensures
    (c.minus-2.ensures ∙ ap (λ z. minus z c.args.deleted.now) c.in_ok-spared.ensures)
    (c.minus-3.ensures ∙ ap (λ z. minus z c.init.result.now) c.in_ok-lacking.ensures ∙ ap (minus c.minus.new.self) c.init.ensures.set)
    c.minus-4.ensures c.in_ok-join.ensures.ok none (subst IsRising c.init-start.ensures.set c.init-start.ensures.rising)
