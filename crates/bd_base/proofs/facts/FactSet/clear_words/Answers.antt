use Rattle.std.proofs.Common.{◌∙◌, ap, sym, List, ℕ}
use Rattle.bd_base.specs.Bits.{row_of}
use Rattle.bd_base.specs.Facts.{minus}
use Rattle.bd_base.specs.FactSet.{facts_of}
use Rattle.bd_base.proofs.SetLemmas.{minus-none}
use Rattle.bd_base.proofs.facts.FactSet.clear_words.Goals as goal

pub returns-in-Empty : goal.returns-in-Empty
returns-in-Empty c =
    let row = row_of 0 c.args.words.now in
    let none = ap facts_of c.in-Empty.is in
    none ∙ minus-none row ∙ ap (λ (z : List ℕ). minus z row) (sym none ∙ c.self.view_is)
