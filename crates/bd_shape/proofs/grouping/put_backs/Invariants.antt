use Rattle.std.proofs.Common.{◌≡◌, ◌++◌, drop, map, filter}
use Rattle.std.specs.List.{enumerate_from}
use Rattle.bd_shape.specs.declared.place.Place.TheVariants.{Outside}
use Rattle.bd_shape.specs.Grouped.{is_back, backs}
use Rattle.bd_shape.proofs.grouping.put_backs.Given as goal

abbrev pub invariant-loop-at : goal.invariant-loop-at
invariant-loop-at l =
    (l.copies.items ++ map (λ k. k.1) (filter (is_back l.ids l.order (enumerate_from 0 l.kids)) (enumerate_from l.at (drop l.at l.kids))) ≡ l.initial.copies.items ++ map (λ k. k.1) (backs l.ids l.order (enumerate_from 0 l.kids)))
    × (l.places.items ++ map (λ k. Outside k.0) (filter (is_back l.ids l.order (enumerate_from 0 l.kids)) (enumerate_from l.at (drop l.at l.kids))) ≡ l.initial.places.items ++ map (λ k. Outside k.0) (backs l.ids l.order (enumerate_from 0 l.kids)))
