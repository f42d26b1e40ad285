use Rattle.std.proofs.Common.{◌∙◌, ◌*◌, ap, sym, List, ℕ}
use Rattle.bd_base.specs.Bits.{bits_of}
use Rattle.bd_base.specs.Facts.{minus}
use Rattle.bd_base.specs.FactSet.{facts_of}
use Rattle.bd_base.proofs.SetLemmas.{minus-none}
use Rattle.bd_base.proofs.facts.FactSet.clear.Goals as goal

pub returns-in-Empty : goal.returns-in-Empty
returns-in-Empty c =
    let word = bits_of (64 * c.args.number) c.args.word in
    let none = ap facts_of c.in-Empty.is in
    none ∙ minus-none word ∙ ap (λ (z : List ℕ). minus z word) (sym none ∙ c.self.view_is)
