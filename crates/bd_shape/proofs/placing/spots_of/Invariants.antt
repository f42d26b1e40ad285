use Rattle.std.proofs.Common.{◌≡◌, ℕ, None, drop, length, get_or}
use Rattle.std.specs.Option.{option_or}
use Rattle.bd_shape.specs.Placed.{AreApart}
use Rattle.bd_shape.proofs.PlacedLemmas.{spot_from}
use Rattle.bd_shape.proofs.placing.spots_of.Given as goal

abbrev pub invariant-loop-at : goal.invariant-loop-at
invariant-loop-at l =
    (length l.spots.items ≡ l.kids)
    × AreApart l.kids (drop l.at l.places)
    × ((d : ℕ) → option_or (spot_from (drop l.at l.places) l.at d) (get_or l.spots.items d None) ≡ spot_from l.places 0 d)
