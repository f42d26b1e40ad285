use Rattle.std.proofs.Common.{◌<◌, length, get_or, ◌∙◌, sym, refl, arith}
use Rattle.std.proofs.lemmas.Bool.{ne_eqb, eq-eqb}
use Rattle.bd_base.specs.Facts.{has}
use Rattle.bd_base.specs.declared.cells.Cell.{Cell}
use Rattle.bd_base.proofs.SetLemmas.{any_word}
use Rattle.bd_base.proofs.CellLemmas.{any_cell}
use Rattle.bd_base.proofs.facts.FactSet.meets_cells.Goals as goal

pub returns-then-word-cell-ne0 : goal.returns-then-word-cell-ne0
returns-then-word-cell-ne0 c =
    let own = c.args.self.now in
    let cells = c.args.cells.now in
    let i = c.loop-cell.cell-index in
    let cell : Cell = get_or cells i (record { number = 0; word = 0 }) in
    let lt : i < length cells = omega arith in
    let test = any_word own cell.number c.word.result cell.word c.word.type_inv c.word.ensures in
    sym (sym c.loop-cell.invariant ∙ any_cell cells i (record { number = 0; word = 0 }) lt (has own) ∙ rw (test, ne_eqb _ 0 c.if-word-cell-ne0.true) refl)

pub loop-cell-preserved : goal.loop-cell-preserved
loop-cell-preserved c =
    let own = c.args.self.now in
    let cells = c.args.cells.now in
    let i = c.loop-cell.cell-index in
    let cell : Cell = get_or cells i (record { number = 0; word = 0 }) in
    let lt : i < length cells = omega arith in
    let test = any_word own cell.number c.word.result cell.word c.word.type_inv c.word.ensures in
    sym (any_cell cells i (record { number = 0; word = 0 }) lt (has own) ∙ rw (test, eq-eqb _ 0 c.if-word-cell-ne0.false) refl) ∙ c.loop-cell.invariant
