use Rattle.std.proofs.Common.{ℕ, List, length, subst}
use Rattle.bd_base.specs.Rows.{AreSpans}
use Rattle.bd_base.proofs.rows.Rows.trim.Goals as goal

pub invariant_of-self : goal.invariant_of-self
invariant_of-self c =
    let first = c.drop_first_rows-self-inside.ensures in
    let last = c.drop_last_rows.ensures in
    let cut = c.cut_row.ensures in (
      first.few,
      first.fits _ (last.fits _ (subst (λ (z : List ℕ). AreSpans (length z) c.cut_row.new.spans.items) c.deref.ensures.value cut.fits)),
      first.in_turn (last.in_turn 0 (cut.in_turn 0 c.self.invariant.2)),
    )
