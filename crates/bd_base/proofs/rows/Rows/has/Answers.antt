use Rattle.std.proofs.Common.{List, ℕ, ap, sym, ◌∙◌}
use Rattle.bd_base.specs.Facts.{has}
use Rattle.bd_base.proofs.RowLemmas.{before_by_row}
use Rattle.bd_base.proofs.rows.Rows.has.Goals as goal

pub returns : goal.returns
returns c = c.has_place.ensures ∙ ap (λ (z : List ℕ). has z c.args.j) c.row.ensures.row ∙ sym (before_by_row c.args.self.now c.args.i c.args.j)
