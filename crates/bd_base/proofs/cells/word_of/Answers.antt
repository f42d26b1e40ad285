use Rattle.std.proofs.Common.{sym}
use Rattle.bd_base.proofs.CellLemmas.{word_at, word_lacks}
use Rattle.bd_base.proofs.cells.word_of.Goals as goal

pub returns-in-Ok : goal.returns-in-Ok
returns-in-Ok c = let h = c.in-Ok.ensures in sym (word_at _ _ c.args.cells.now c.in-Ok.place c.args.number (record { number = 0; word = 0 }) c.requires h.0 (h.1 _))

pub returns-in-Err : goal.returns-in-Err
returns-in-Err c = sym (word_lacks c.args.cells.now c.in-Err.field-0 c.args.number (record { number = 0; word = 0 }) c.in-Err.ensures)
