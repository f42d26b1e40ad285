-- How an order is made anew for places of a new listing.
use Rattle.std.specs.List.{filter, list_any}
use Rattle.std.specs.Option.{option_map_or}
use Rattle.std.specs.Prelude.{get_or, nat_lt, ◌≡◌, ℕ, ◌<◌, Bool, true, false, not, ◌&&◌, ◌||◌, ◌==◌, List, [], ◌∷◌, length, Option, Some, None, slice_get}
use Rattle.bd_base.specs.Facts.{has}
use Rattle.bd_base.specs.Pairs.{after_of, is_before, total_order}
use Rattle.bd_shape.specs.declared.place.Place.{Place}
use Rattle.bd_shape.specs.declared.place.Place.TheVariants.{Outside, Group}
use Rattle.bd_shape.specs.declared.sides.Sides.{Sides}

-- whether two are ordered by way of the group, whose sides these are
abbrev pub is_through : Sides → Place → Place → Bool
is_through sides (Outside c) (Outside d) = has sides.before c && has sides.after d
is_through sides (Outside c) Group = has sides.before c
is_through sides Group (Outside d) = has sides.after d
is_through sides Group Group = false

-- whether two kids outside were ordered
abbrev pub was_ordered : List (ℕ × ℕ) → Place → Place → Bool
was_ordered order (Outside c) (Outside d) = is_before order c d
was_ordered order (Outside c) Group = false
was_ordered order Group second = false

abbrev pub is_placed : List (ℕ × ℕ) → Sides → Place → Place → Bool
is_placed order sides first second = was_ordered order first second || is_through sides first second

abbrev pub are_placed : List (ℕ × ℕ) → Sides → Option Place → Option Place → Bool
are_placed order sides None second = false
are_placed order sides (Some first) None = false
are_placed order sides (Some first) (Some second) = is_placed order sides first second

-- whether what stands at the first position is before what stands at the second
abbrev pub is_placed_pair : List (ℕ × ℕ) → Sides → List Place → ℕ × ℕ → Bool
is_placed_pair order sides places p = are_placed order sides (slice_get places p.0) (slice_get places p.1)

-- the order of the places
abbrev pub placed_order : List (ℕ × ℕ) → Sides → List Place → List (ℕ × ℕ)
placed_order order sides places = filter (is_placed_pair order sides places) (total_order (length places))

-- whether the kid stands at the place
abbrev pub is_kid : ℕ → Place → Bool
is_kid d (Outside c) = c == d
is_kid d Group = false

-- whether the kid stands at one of the places
abbrev pub stands_in : ℕ → List Place → Bool
stands_in d places = list_any (is_kid d) places

-- each kid stands at one place at most, and has an old position below the bound
abbrev pub AreApart : ℕ → List Place → Type 0
AreApart bound [] = Unit {0}
AreApart bound (Group ∷ places) = AreApart bound places
AreApart bound (Outside d ∷ places) = (d < bound) × (stands_in d places ≡ false) × AreApart bound places

-- whether a table of spots, by old positions, has the kid at the new position
abbrev pub is_spot : List (Option ℕ) → ℕ → ℕ → Bool
is_spot spots d q = option_map_or (λ b. b == q) (get_or spots d None) false

-- the table has a kid at a new position exactly where it stands there
abbrev pub AreSpots : List Place → List (Option ℕ) → Type 0
AreSpots places spots = (d q : ℕ) → is_spot spots d q ≡ option_map_or (is_kid d) (slice_get places q) false

-- the kid at the place has an old position below the bound
abbrev pub IsLow : ℕ → Place → Type 0
IsLow bound (Outside d) = d < bound
IsLow bound Group = Unit {0}

-- where a listing is cut: the group stands there, if at all, and of the kids those from there on, and they alone, are
-- after some kid of the group
abbrev pub IsSplitAt : Sides → ℕ → ℕ → Option Place → Type 0
IsSplitAt sides cut q None = Unit {0}
IsSplitAt sides cut q (Some (Outside d)) = has sides.after d ≡ not (nat_lt q cut)
IsSplitAt sides cut q (Some Group) = q ≡ cut

abbrev pub AreSplit : Sides → List Place → ℕ → Type 0
AreSplit sides places cut = (q : ℕ) → IsSplitAt sides cut q (slice_get places q)

-- whether the first may be before others by way of the group
abbrev pub leads : Sides → Place → Bool
leads sides (Outside c) = has sides.before c
leads sides Group = true

-- whether a kid that was after the first stands at the new position, and that is a later one
abbrev pub was_put : List (ℕ × ℕ) → List (Option ℕ) → ℕ → Place → ℕ → Bool
was_put order spots at (Outside c) q = list_any (λ d. nat_lt at q && is_spot spots d q) (after_of order c)
was_put order spots at Group q = false

-- whether the second stands at the new position, and is ordered by way of the group
abbrev pub is_put_through : Sides → Place → ℕ → ℕ × Place → Bool
is_put_through sides first q k = k.0 == q && is_through sides first k.1
