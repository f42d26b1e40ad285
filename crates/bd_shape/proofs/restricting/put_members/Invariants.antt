use Rattle.std.proofs.Common.{◌≡◌, ◌++◌, drop, map}
use Rattle.std.specs.List.{enumerate_from}
use Rattle.bd_shape.specs.Restricted.{members}
use Rattle.bd_shape.specs.declared.place.Place.TheVariants.{Outside}
use Rattle.bd_shape.proofs.restricting.put_members.Given as goal

abbrev pub invariant-loop-at : goal.invariant-loop-at
invariant-loop-at l =
    (l.copies.items ++ map (λ k. k.1) (members l.ids (enumerate_from l.at (drop l.at l.kids))) ≡ l.initial.copies.items ++ map (λ k. k.1) (members l.ids (enumerate_from 0 l.kids)))
    × (l.places.items ++ map (λ k. Outside k.0) (members l.ids (enumerate_from l.at (drop l.at l.kids))) ≡ l.initial.places.items ++ map (λ k. Outside k.0) (members l.ids (enumerate_from 0 l.kids)))
