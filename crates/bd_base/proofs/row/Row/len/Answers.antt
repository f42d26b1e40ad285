use Rattle.std.proofs.Common.{ℕ, List, length, ap, sym, ◌∙◌}
use Rattle.bd_base.specs.Row.{places_in}
use Rattle.bd_base.proofs.RowLemmas.{length-after}
use Rattle.bd_base.proofs.row.Row.len.Goals as goal

pub returns-in-Listed : goal.returns-in-Listed
returns-in-Listed c =
    c.count_after.ensures ∙ sym (length-after c.in-Listed.pairs.now c.in-Listed.i) ∙ ap (λ (z : List ℕ). length z) (sym (ap places_in c.in-Listed.is) ∙ c.self.view_is)
