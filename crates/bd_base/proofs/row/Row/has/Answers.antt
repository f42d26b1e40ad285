use Rattle.std.proofs.Common.{◌∙◌, List, ℕ, ap, sym}
use Rattle.bd_base.specs.Facts.{has}
use Rattle.bd_base.specs.Row.{places_in}
use Rattle.bd_base.proofs.RowLemmas.{before_by_row}
use Rattle.bd_base.proofs.row.Row.has.Goals as goal

pub returns-in-Listed : goal.returns-in-Listed
returns-in-Listed c =
    c.has_pair.ensures ∙ before_by_row c.in-Listed.pairs.now c.in-Listed.i c.args.at
    ∙ ap (λ (z : List ℕ). has z c.args.at) (sym (ap places_in c.in-Listed.is) ∙ c.self.view_is)
