use Rattle.std.proofs.Common.{ℕ, List, ap, ◌∙◌, subst}
use Rattle.bd_pieces.specs.declared.pieces.Piece.{Piece}
use Rattle.bd_workers.specs.declared.parts.Setup.{Setup}
use Rattle.command_words.specs.declared.request.Numbers.{Numbers}
use Rattle.plan_improve.specs.Improved.{EndsSo, IsImproved}
use Rattle.bd_top.specs.Improve.{improved_record, setup_of}
use Rattle.bd_top.proofs.BenchLemmas.{tells_summary}
use Rattle.bd_top.proofs.bench.put_summary.Goals as goal

pub returns : goal.returns
returns g c =
    let made = c.in-Ok.made in
    tells_summary c.args.task c.args.plan made.core made.pieces.items _
    (subst (λ (n : Numbers). IsImproved c.args.task c.args.plan n.stop made.core) c.default_numbers-numbers.ensures
    (subst (λ (list : List ℕ). IsImproved c.args.task list c.default_numbers-numbers.result.stop made.core) c.as_slice.ensures c.in-Ok.ensures.run))
    made.told made.end c.improved_record-run.result _ _
    (c.improved_record-run.ensures.recorded ∙ ap (λ (told : List Piece). improved_record made.core told made.end) c.pieces_told-pieces.ensures)
    (subst (λ (setup : Setup). EndsSo setup made.core made.pieces.items made.end made.told) (c.setup_of-setup.ensures ∙ ap setup_of c.default_numbers-numbers.ensures) c.in-Ok.ensures.ends)
    c.in-Ok.ensures.unfailing c.finished.ensures.finishes
