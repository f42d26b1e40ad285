use Rattle.std.proofs.Common.{◌<◌, length, sym, arith}
use Rattle.std.proofs.lemmas.Bool.{ltb-true, eqb-false}
use Rattle.bd_base.proofs.CellLemmas.{cells_within}
use Rattle.bd_base.proofs.cells.are_within.Goals as goal

pub returns : goal.returns
returns c = λ last.
    let filled = eqb-false (length c.args.cells.now) 0 (sym c.if-is_empty.ensures) in
    let some : 0 < length c.args.cells.now = omega arith in
    cells_within 0 _ c.args.n c.args.cells.now (record { number = 0; word = 0 }) c.requires some (ltb-true _ _ last)
