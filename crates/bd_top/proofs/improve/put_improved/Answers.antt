use Rattle.std.proofs.Common.{ℕ, List, ap, ◌∙◌, subst}
use Rattle.bd_pieces.specs.declared.pieces.Piece.{Piece}
use Rattle.bd_workers.specs.declared.parts.Setup.{Setup}
use Rattle.plan_improve.specs.Improved.{EndsSo, IsImproved}
use Rattle.bd_top.specs.Improve.{improved_record}
use Rattle.bd_top.proofs.ImproveLemmas.{tells_improved}
use Rattle.bd_top.proofs.improve.put_improved.Goals as goal

pub returns : goal.returns
returns g c =
    let made = c.in-Ok.made in
    tells_improved c.args.task c.args.plan c.args.numbers.now made.core made.pieces.items _ _ _ _ _ _
    (subst (λ (list : List ℕ). IsImproved c.args.task list c.args.numbers.now.stop made.core) c.as_slice.ensures c.in-Ok.ensures.run)
    c.improve.ensures.later c.finished.ensures.later made.told made.end c.improved_record-run.result _ _
    (c.improved_record-run.ensures.recorded ∙ ap (λ (told : List Piece). improved_record made.core told made.end) c.pieces_told-pieces.ensures)
    (subst (λ (setup : Setup). EndsSo setup made.core made.pieces.items made.end made.told) c.setup_of-setup.ensures c.in-Ok.ensures.ends)
    c.in-Ok.ensures.told c.finished.ensures.finishes
