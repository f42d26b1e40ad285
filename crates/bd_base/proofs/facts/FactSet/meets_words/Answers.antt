use Rattle.std.proofs.Common.{◌∙◌, ap, sym, List, ℕ}
use Rattle.std.specs.List.{list_any}
use Rattle.bd_base.specs.Bits.{row_of}
use Rattle.bd_base.specs.Facts.{has}
use Rattle.bd_base.specs.FactSet.{facts_of}
use Rattle.bd_base.proofs.SetLemmas.{any_of_none}
use Rattle.bd_base.proofs.facts.FactSet.meets_words.Goals as goal

pub returns-in-Empty : goal.returns-in-Empty
returns-in-Empty c =
    let row = row_of 0 c.args.words.now in
    sym (any_of_none row) ∙ ap (λ (z : List ℕ). list_any (has z) row) (sym (ap facts_of c.in-Empty.is) ∙ c.self.view_is)
