use Rattle.std.proofs.Common.{◌+◌, List, ℕ, sym, subst}
use Rattle.bd_merge.specs.Starts.{RiseBetween}
use Rattle.bd_merge.proofs.RiseLemmas.{row_rises}
use Rattle.bd_merge.proofs.ordering.kid_row.Goals as goal

pub put_all-requires-clause-row : goal.put_all-requires-clause-row
put_all-requires-clause-row c = subst (λ (z : List ℕ). RiseBetween (c.args.i + 1) c.args.olds z) (sym c.after.ensures) (row_rises c.args.olds c.args.i c.args.order.now c.requires.order)
