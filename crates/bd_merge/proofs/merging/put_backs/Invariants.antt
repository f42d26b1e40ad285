use Rattle.std.proofs.Common.{◌≡◌, ◌++◌, drop, map, filter}
use Rattle.std.specs.List.{enumerate_from}
use Rattle.bd_merge.specs.declared.merging.Place.TheVariants.{Back}
use Rattle.bd_merge.specs.Merged.{is_back, backs}
use Rattle.bd_merge.proofs.merging.put_backs.Given as goal

abbrev pub invariant-loop-kid : goal.invariant-loop-kid
invariant-loop-kid l =
    (l.at ≡ l.kid-index)
    × (l.copies.items ++ map (λ k. k.1) (filter (is_back l.window l.order (enumerate_from 0 l.kids)) (enumerate_from l.at (drop l.kid-index l.kids))) ≡ l.initial.copies.items ++ map (λ k. k.1) (backs l.window l.order (enumerate_from 0 l.kids)))
    × (l.places.items ++ map (λ k. Back k.0) (filter (is_back l.window l.order (enumerate_from 0 l.kids)) (enumerate_from l.at (drop l.kid-index l.kids))) ≡ l.initial.places.items ++ map (λ k. Back k.0) (backs l.window l.order (enumerate_from 0 l.kids)))
