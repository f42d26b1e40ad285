-- What is known of the kids in front of a window, in a block of these kids and this order.
use Rattle.std.specs.Prelude.{◌≡◌, ℕ, ◌<◌, nat_lt, Bool, not, ◌&&◌, List, length, map, Option, Some, None}
use Rattle.std.specs.List.{list_any, enumerate_from}
use Rattle.bd_base.specs.Facts.{has}
use Rattle.bd_base.specs.Pairs.{is_before, total_order}
use Rattle.bd_tree.specs.Convex.{is_member}
use Rattle.bd_tree.specs.declared.node.Node.{Node}
use Rattle.bd_tree.specs.Tree.{id_of}
use Rattle.bd_merge.specs.Merged.{goes_first}
use Rattle.bd_merge.specs.declared.merging.Sides.{Sides}
use Rattle.bd_merge.specs.declared.merging.Sides.TheVariants.{Below, Touched}
use Rattle.bd_merge.specs.declared.window.Lean.{Lean}
use Rattle.bd_merge.specs.declared.window.Lean.TheVariants.{Early, Late}
use Rattle.bd_merge.specs.declared.window.Window.{Window}

-- each kid is before all later ones, and those that go in front are those below the end
pub record EndsFronts (window : Window) (order : List (ℕ × ℕ)) (kids : List Node) (end : ℕ) : Type 0 where
  pub total : order ≡ total_order (length kids)
  pub first : (j : ℕ) → j < length kids → goes_first window.lean order (map id_of window.kids) (enumerate_from 0 kids) j ≡ nat_lt j end

-- where an end is told, it is the end of the kids in front
abbrev pub IsFrontEnd : Window → List (ℕ × ℕ) → List Node → Option ℕ → Type 0
IsFrontEnd window order kids None = Unit {0}
IsFrontEnd window order kids (Some end) = EndsFronts window order kids end

-- whether the first position is before the second, or for `Late` behind it
abbrev pub is_related : Lean → List (ℕ × ℕ) → ℕ → ℕ → Bool
is_related Early order k j = is_before order k j
is_related Late order k j = is_before order j k

-- whether some carried kid is related to the position
abbrev pub is_touched : Lean → List (ℕ × ℕ) → List ℕ → List (ℕ × Node) → ℕ → Bool
is_touched lean order ids kids j = list_any (λ k. is_member ids k && is_related lean order k.0 j) kids

-- the row has the positions to which some carried kid is related
abbrev pub IsTouched : Window → List (ℕ × ℕ) → List Node → List ℕ → Type 0
IsTouched window order kids row = (j : ℕ) → has row j ≡ is_touched window.lean order (map id_of window.kids) (enumerate_from 0 kids) j

-- whether a kid at the position goes in front, as the sides tell it
abbrev pub is_told_first : Lean → Sides → ℕ → Bool
is_told_first lean (Below end) at = nat_lt at end
is_told_first Early (Touched row) at = not (has row at)
is_told_first Late (Touched row) at = has row at

-- the sides tell which kids go in front
abbrev pub TellsSides : Window → List (ℕ × ℕ) → List Node → Sides → Type 0
TellsSides window order kids sides = (j : ℕ) → j < length kids → is_told_first window.lean sides j ≡ goes_first window.lean order (map id_of window.kids) (enumerate_from 0 kids) j
