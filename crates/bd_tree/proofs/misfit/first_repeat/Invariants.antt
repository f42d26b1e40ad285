use Rattle.std.proofs.Common.{◌≡◌, ℕ, List, [], drop}
use Rattle.std.specs.BTreeSet as tree
use Rattle.std.specs.Ordering.{nat_cmp}
use Rattle.bd_base.specs.Facts.{has}
use Rattle.bd_tree.specs.Misfit.{first_repeat}
use Rattle.bd_tree.proofs.misfit.first_repeat.Given as goal

abbrev pub invariant-loop-id : goal.invariant-loop-id
invariant-loop-id l = (seen : List ℕ) × ((q : ℕ) → tree.contains nat_cmp l.seen q ≡ has seen q) × (first_repeat seen (drop l.id-index l.ids) ≡ first_repeat [] l.ids)
