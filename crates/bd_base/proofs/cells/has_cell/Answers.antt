use Rattle.std.proofs.Common.{◌%◌, eqb, ap, sym, ◌∙◌}
use Rattle.std.specs.Int.{bit_at}
use Rattle.std.proofs.lemmas.Nat.Bits.{shr_and_one}
use Rattle.bd_base.proofs.SetLemmas.{on_is}
use Rattle.bd_base.proofs.CellLemmas.{has_cells}
use Rattle.bd_base.proofs.cells.has_cell.Goals as goal

pub returns : goal.returns
returns c =
    let bit = c.args.fact % 64 in
    rw (shr_and_one c.word_of.result bit)
    (ap (λ z. eqb (bit_at z bit) 1) c.word_of.ensures ∙ sym (on_is _ bit) ∙ sym (has_cells 0 _ c.args.cells.now c.args.fact c.requires))
