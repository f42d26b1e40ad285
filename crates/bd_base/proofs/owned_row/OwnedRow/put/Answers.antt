use Rattle.std.proofs.Common.{◌∙◌, ap}
use Rattle.bd_base.specs.Bits.{row_of}
use Rattle.bd_base.specs.Facts.{insert_fact}
use Rattle.bd_base.proofs.SetLemmas.{put_single}
use Rattle.bd_base.proofs.owned_row.OwnedRow.put.Goals as goal

pub returns-clause-ok : goal.returns-clause-ok
returns-clause-ok c = c.put_word.ensures.put ∙ put_single (row_of 0 c.widen.new.words.items) c.args.at ∙ ap (insert_fact c.args.at) (c.widen.ensures.same ∙ c.self.view_is)
