use Rattle.std.proofs.Common.{◌+◌, ◌*◌, ◌∙◌, eqb, ap, sym, List, ℕ}
use Rattle.std.specs.Int.{bit_at}
use Rattle.bd_base.specs.Facts.{has}
use Rattle.bd_base.specs.Row.{places_in}
use Rattle.bd_base.proofs.SetLemmas.{word_facts}
use Rattle.bd_base.proofs.row.Row.word.Goals as goal

pub returns-in-Words : goal.returns-in-Words
returns-in-Words c = λ b low.
    ap (λ (z : List ℕ). has z (64 * c.args.n + b)) (sym c.self.view_is ∙ ap places_in c.in-Words.is) ∙ word_facts c.in-Words.words.now c.args.n b low
    ∙ ap (λ z. eqb (bit_at z b) 1) (sym c.word_at.ensures)
