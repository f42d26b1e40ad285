use Rattle.std.proofs.Common.{◌+◌, ◌*◌, ◌∙◌, eqb, get_or, subst, ap, sym, List, ℕ}
use Rattle.std.specs.Int.{bit_at}
use Rattle.bd_base.specs.Cells.{word_in}
use Rattle.bd_base.specs.declared.cells.Cell.{Cell}
use Rattle.bd_base.specs.Facts.{has}
use Rattle.bd_base.specs.FactSet.{IsStored, facts_of}
use Rattle.bd_base.proofs.SetLemmas.{word_facts}
use Rattle.bd_base.proofs.CellLemmas.{cell_facts}
use Rattle.bd_base.proofs.facts.FactSet.word.Goals as goal

pub returns-in-Plain : goal.returns-in-Plain
returns-in-Plain c = λ b low.
    ap (λ (z : List ℕ). has z (64 * c.args.number + b)) (sym c.self.view_is ∙ ap facts_of c.in-Plain.is) ∙ word_facts c.in-Plain.words.items c.args.number b low
    ∙ ap (λ z. eqb (bit_at z b) 1) (sym (c.word_at.ensures ∙ ap (λ (z : List ℕ). get_or z c.args.number 0) c.deref.ensures.value))

pub returns-in-Numbered : goal.returns-in-Numbered
returns-in-Numbered c = λ b low.
    ap (λ (z : List ℕ). has z (64 * c.args.number + b)) (sym c.self.view_is ∙ ap facts_of c.in-Numbered.is) ∙ cell_facts c.in-Numbered.cells.items c.args.number b (subst IsStored c.in-Numbered.is c.self.invariant) low
    ∙ ap (λ z. eqb (bit_at z b) 1) (sym (c.word_of.ensures ∙ ap (λ (z : List Cell). word_in z c.args.number) c.deref-in-Numbered.ensures.value))
