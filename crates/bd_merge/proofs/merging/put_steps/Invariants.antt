use Rattle.std.proofs.Common.{◌≡◌, ◌+◌, ◌++◌, drop, map}
use Rattle.bd_tree.specs.Chain.{steps_from}
use Rattle.bd_merge.specs.declared.merging.Place.TheVariants.{New}
use Rattle.bd_merge.proofs.merging.put_steps.Given as goal

abbrev pub invariant-loop-action : goal.invariant-loop-action
invariant-loop-action l =
    (l.id ≡ l.fn.next + l.action-index)
    × (l.copies.items ++ steps_from l.id (drop l.action-index l.list) ≡ l.initial.copies.items ++ steps_from l.fn.next l.list)
    × (l.places.items ++ map (λ a. New) (drop l.action-index l.list) ≡ l.initial.places.items ++ map (λ a. New) l.list)
