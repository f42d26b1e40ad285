use Rattle.std.proofs.Common.{◌≡◌, ℕ, List, [], drop}
use Rattle.std.specs.BTreeSet as tree
use Rattle.std.specs.Ordering.{nat_cmp}
use Rattle.bd_base.specs.Facts.{has}
use Rattle.plan_core.specs.New.{are_new}
use Rattle.plan_core.proofs.sides.are_new.Given as goal

abbrev pub invariant-loop-id : goal.invariant-loop-id
invariant-loop-id l = (seen : List ℕ) × ((q : ℕ) → tree.contains nat_cmp l.seen q ≡ has seen q) × (are_new seen (drop l.id-index l.ids) ≡ are_new [] l.ids)
