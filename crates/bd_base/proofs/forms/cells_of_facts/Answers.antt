use Rattle.std.proofs.Common.{◌∙◌, ◌<◌, ap, sym, [], length, take, arith}
use Rattle.std.proofs.lemmas.Grind.{get_or_default_zero}
use Rattle.bd_base.specs.Cells.{cells_of}
use Rattle.bd_base.specs.Facts.{insert_fact, plus}
use Rattle.bd_base.proofs.SetLemmas.{put_single, plus-push}
use Rattle.bd_base.proofs.forms.cells_of_facts.Goals as goal

pub loop-f-preserved : goal.loop-f-preserved
loop-f-preserved c =
    let facts = c.args.facts.now in
    let i = c.loop-f.f-index in
    let lt : i < length facts = omega arith in
    let fact = c.f.view_is ∙ c.f-item.is ∙ get_or_default_zero facts i c.f-item.result lt in
    record {
      made = c.in_ok-put_cell.ensures.ok ∙ put_single (cells_of c.loop-f.cells.items) c.f.inside.0
          ∙ ap (insert_fact c.f.inside.0) c.loop-f.invariant.made ∙ ap (λ z. insert_fact z (plus [] (take i facts))) fact ∙ sym (plus-push facts i lt);
      fits = c.put_cell.ensures.cells;
    }
