-- Inner: serves this crate's own proofs alone.
-- Where the kids of each side stand in a merged block's listing, by their old positions.
use Rattle.std.specs.Prelude.{◌≡◌, ℕ, ◌+◌, ◌≤◌, ◌<◌, ◌==◌, nat_le, nat_lt, Bool, true, false, ◌&&◌, List, [], ◌∷◌, length, Option, Some, None, slice_get, slice_index}
use Rattle.std.specs.List.{list_any, list_all}
use Rattle.bd_base.specs.Facts.{has}
use Rattle.bd_base.specs.Pairs.{total_order}
use Rattle.bd_merge.specs.Merged.{is_ordered}
use Rattle.bd_merge.specs.declared.merging.Place.{Place}
use Rattle.bd_merge.specs.declared.merging.Place.TheVariants.{Front, New, Back}
use Rattle.bd_merge.specs.declared.ordering.Side.{Side}
use Rattle.bd_merge.specs.declared.ordering.Side.TheVariants.{Ahead, Behind}
use Rattle.bd_merge.specs.declared.ordering.RowParts.{RowParts}

-- whether each is before all later ones
abbrev pub stand_in_turn : List (ℕ × ℕ) → List Place → Bool
stand_in_turn order [] = true
stand_in_turn order (p ∷ ps) = list_all (is_ordered order p) ps && stand_in_turn order ps

-- whether a kid's old position is below a number
abbrev pub is_old_below : ℕ → Place → Bool
is_old_below n (Front i) = nat_lt i n
is_old_below n New = true
is_old_below n (Back i) = nat_lt i n

-- what stands in a merged block of so many kids: the kids of each side rise by their old positions
pub record AreListed (olds : ℕ) (places : List Place) : Type 0 where
  pub turn : stand_in_turn (total_order olds) places ≡ true
  pub below : list_all (is_old_below olds) places ≡ true

-- whether the kid of a side with an old position stands there
abbrev pub is_kid : Side → ℕ → Option Place → Bool
is_kid Ahead j None = false
is_kid Ahead j (Some (Front k)) = j == k
is_kid Ahead j (Some New) = false
is_kid Ahead j (Some (Back k)) = false
is_kid Behind j None = false
is_kid Behind j (Some (Front k)) = false
is_kid Behind j (Some New) = false
is_kid Behind j (Some (Back k)) = j == k

-- whether what stands there comes before the kids of a side that have an old position or a later one
abbrev pub is_passed : Side → ℕ → Option Place → Bool
is_passed Ahead j None = false
is_passed Ahead j (Some (Front k)) = nat_lt k j
is_passed Ahead j (Some New) = false
is_passed Ahead j (Some (Back k)) = false
is_passed Behind j None = false
is_passed Behind j (Some (Front k)) = true
is_passed Behind j (Some New) = true
is_passed Behind j (Some (Back k)) = nat_lt k j

-- the place below which stands what comes before the kids that have an old position or a later one
abbrev pub IsStart : Side → List Place → ℕ → ℕ → Type 0
IsStart side places j q = (p : ℕ) → nat_lt p q ≡ is_passed side j (slice_get places p)

-- such a place for each old position, and one past all
pub record AreStarts (side : Side) (places : List Place) (olds : ℕ) (starts : List ℕ) : Type 0 where
  pub many : length starts ≡ olds + 1
  pub at : (j : ℕ) → j ≤ olds → IsStart side places j (slice_index starts j)

-- whether each kid of a side is before what stands there, whatever the order
abbrev pub is_always : Side → Option Place → Bool
is_always Ahead None = false
is_always Ahead (Some (Front k)) = false
is_always Ahead (Some New) = true
is_always Ahead (Some (Back k)) = true
is_always Behind place = false

-- what the rows of a side's kids are made of
pub record AreParts (side : Side) (places : List Place) (olds : ℕ) (parts : RowParts) : Type 0 where
  pub starts : AreStarts side places olds parts.starts.items
  pub always : (q : ℕ) → has parts.always q ≡ is_always side (slice_get places q)

-- whether a position is in a run
abbrev pub is_in_run : ℕ → ℕ → ℕ → Bool
is_in_run from to q = nat_le from q && nat_lt q to

-- whether a place is between the starts of one of the old positions and of the next
abbrev pub is_between : List ℕ → List ℕ → ℕ → Bool
is_between starts olds q = list_any (λ j. is_in_run (slice_index starts j) (slice_index starts (j + 1)) q) olds

-- starts for so many old positions, none above a later one
pub record Rise (olds : ℕ) (starts : List ℕ) : Type 0 where
  pub many : length starts ≡ olds + 1
  pub rise : (j k : ℕ) → j ≤ k → k ≤ olds → slice_index starts j ≤ slice_index starts k

-- numbers that rise, from one on and below another
abbrev pub RiseBetween : ℕ → ℕ → List ℕ → Type 0
RiseBetween low high [] = Unit {0}
RiseBetween low high (x ∷ xs) = (low ≤ x) × (x < high) × RiseBetween (x + 1) high xs
