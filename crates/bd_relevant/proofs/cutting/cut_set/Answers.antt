use Rattle.std.proofs.Common.{ap, ◌∙◌}
use Rattle.bd_base.specs.Facts.{minus}
use Rattle.bd_relevant.proofs.CutDownLemmas.{cut_by_minus}
use Rattle.bd_relevant.proofs.cutting.cut_set.Goals as goal

pub returns : goal.returns
returns c =
    cut_by_minus c.args.relevant.now c.args.s.now c.minus.new.self c.minus-2.new.self c.iter-walk.ensures.rising
    (c.minus.ensures ∙ ap (λ z. minus z c.args.relevant.now) c.in_ok-others.ensures)
    (c.minus-2.ensures ∙ ap (λ z. minus z c.minus.new.self) c.in_ok-cut.ensures)
