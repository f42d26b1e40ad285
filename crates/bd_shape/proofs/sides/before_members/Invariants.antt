use Rattle.std.proofs.Common.{◌≡◌, ◌||◌, ℕ, drop}
use Rattle.std.specs.List.{enumerate_from}
use Rattle.bd_base.specs.Facts.{has}
use Rattle.bd_tree.specs.Convex.{is_before_some}
use Rattle.bd_shape.proofs.sides.before_members.Given as goal

abbrev pub invariant-loop-at : goal.invariant-loop-at
invariant-loop-at l = (q : ℕ) → (has l.row q || is_before_some l.order l.ids (enumerate_from l.at (drop l.at l.kids)) q) ≡ is_before_some l.order l.ids (enumerate_from 0 l.kids) q
