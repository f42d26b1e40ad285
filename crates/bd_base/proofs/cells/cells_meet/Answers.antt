use Rattle.std.proofs.Common.{◌<◌, length, get_or, ◌∙◌, ap, sym, refl, arith}
use Rattle.std.specs.List.{list_any}
use Rattle.std.proofs.lemmas.Bool.{ne_eqb, eq-eqb}
use Rattle.bd_base.specs.Bits.{row_of}
use Rattle.bd_base.specs.Cells.{cells_of}
use Rattle.bd_base.specs.Facts.{has}
use Rattle.bd_base.specs.declared.cells.Cell.{Cell}
use Rattle.bd_base.proofs.SetLemmas.{drop_all, any_turned, word_test}
use Rattle.bd_base.proofs.CellLemmas.{any_cell}
use Rattle.bd_base.proofs.cells.cells_meet.Goals as goal

pub returns-then-word_at-cell-ne0 : goal.returns-then-word_at-cell-ne0
returns-then-word_at-cell-ne0 c =
    let words = row_of 0 c.args.words.now in
    let cells = c.args.cells.now in
    let i = c.loop-cell.cell-index in
    let cell : Cell = get_or cells i (record { number = 0; word = 0 }) in
    let lt : i < length cells = omega arith in
    let test = word_test c.args.words.now cell.number c.word_at.result cell.word c.word_at.ensures c.word_at.type_inv in
    sym (any_turned (cells_of cells) words ∙ sym c.loop-cell.invariant ∙ any_cell cells i (record { number = 0; word = 0 }) lt (has words) ∙ rw (test, ne_eqb _ 0 c.if-word_at-cell-ne0.true) refl)

pub loop-cell-preserved : goal.loop-cell-preserved
loop-cell-preserved c =
    let words = row_of 0 c.args.words.now in
    let cells = c.args.cells.now in
    let i = c.loop-cell.cell-index in
    let cell : Cell = get_or cells i (record { number = 0; word = 0 }) in
    let lt : i < length cells = omega arith in
    let test = word_test c.args.words.now cell.number c.word_at.result cell.word c.word_at.ensures c.word_at.type_inv in
    sym (any_cell cells i (record { number = 0; word = 0 }) lt (has words) ∙ rw (test, eq-eqb _ 0 c.if-word_at-cell-ne0.false) refl) ∙ c.loop-cell.invariant

pub returns : goal.returns
returns c =
    sym (any_turned (cells_of c.args.cells.now) (row_of 0 c.args.words.now) ∙ sym c.loop-cell.invariant
    ∙ ap (λ z. list_any (has (row_of 0 c.args.words.now)) (cells_of z)) (drop_all c.args.cells.now c.loop-cell.cell-index (omega arith)))
