-- A tree in which some kids of a block are one block.
use Rattle.std.specs.List.{enumerate_from, filter}
use Rattle.std.specs.Prelude.{◌≡◌, ℕ, ◌<◌, Bool, true, false, not, ◌&&◌, ◌||◌, List, [], ◌∷◌, ◌++◌, length, map, Option, Some, None, slice_get}
use Rattle.bd_base.specs.Facts.{has, is_subset}
use Rattle.bd_base.specs.Pairs.{is_before, total_order}
use Rattle.bd_tree.specs.declared.node.Node.{Node, Block}
use Rattle.bd_tree.specs.Convex.{is_member, is_after_some, is_before_some}
use Rattle.bd_tree.specs.Tree.{find_in}
use Rattle.bd_tree.specs.WellFormed.{are_distinct}
use Rattle.bd_shape.specs.Kids.{kids_at, convex_at}
use Rattle.bd_shape.specs.Remade.{remade}
use Rattle.bd_shape.specs.Restricted.{members, restricted_block}
use Rattle.bd_shape.specs.declared.place.Place.{Place}
use Rattle.bd_shape.specs.declared.place.Place.TheVariants.{Outside, Group}

-- the kids with these ids may be grouped: they are kids of the block, at least one, none twice, and convex
pub record CanGroup (root : Node) (block : ℕ) (ids : List ℕ) : Type 0 where
  pub some : 0 < length ids
  pub own : is_subset ids (kids_at block root) ≡ true
  pub once : are_distinct ids ≡ true
  pub convex : convex_at block ids root ≡ true

-- whether the kid is outside the group, and not after any member
abbrev pub is_front : List ℕ → List (ℕ × ℕ) → List (ℕ × Node) → ℕ × Node → Bool
is_front ids order kids k = not (is_member ids k) && not (is_after_some order ids kids k.0)

-- whether the kid is outside the group, and after some member
abbrev pub is_back : List ℕ → List (ℕ × ℕ) → List (ℕ × Node) → ℕ × Node → Bool
is_back ids order kids k = not (is_member ids k) && is_after_some order ids kids k.0

abbrev pub fronts : List ℕ → List (ℕ × ℕ) → List (ℕ × Node) → List (ℕ × Node)
fronts ids order kids = filter (is_front ids order kids) kids

abbrev pub backs : List ℕ → List (ℕ × ℕ) → List (ℕ × Node) → List (ℕ × Node)
backs ids order kids = filter (is_back ids order kids) kids

-- the new listing: the kids not after any member, the new block of the members, and the kids after some member
abbrev pub grouped_kids : List ℕ → ℕ → List (ℕ × ℕ) → List (ℕ × Node) → List Node
grouped_kids ids fresh order kids = map (λ k. k.1) (fronts ids order kids) ++ restricted_block fresh order (members ids kids) ∷ [] ++ map (λ k. k.1) (backs ids order kids)

-- what stands at each position of the new listing; a kid outside is told by its old position
abbrev pub grouped_places : List ℕ → List (ℕ × ℕ) → List (ℕ × Node) → List Place
grouped_places ids order kids = map (λ k. Outside k.0) (fronts ids order kids) ++ Group ∷ [] ++ map (λ k. Outside k.0) (backs ids order kids)

-- whether one is before another: kids outside as they were, or where one was before some member and some member was
-- before the other; a kid outside and the group, as the kid was with some member
abbrev pub is_ordered : List ℕ → List (ℕ × ℕ) → List (ℕ × Node) → Place → Place → Bool
is_ordered ids order kids (Outside c) (Outside d) = is_before order c d || is_before_some order ids kids c && is_after_some order ids kids d
is_ordered ids order kids (Outside c) Group = is_before_some order ids kids c
is_ordered ids order kids Group (Outside d) = is_after_some order ids kids d
is_ordered ids order kids Group Group = false

abbrev pub are_ordered : List ℕ → List (ℕ × ℕ) → List (ℕ × Node) → Option Place → Option Place → Bool
are_ordered ids order kids None second = false
are_ordered ids order kids (Some first) None = false
are_ordered ids order kids (Some first) (Some second) = is_ordered ids order kids first second

-- whether what stands at the first position is before what stands at the second
abbrev pub is_kept : List ℕ → List (ℕ × ℕ) → List (ℕ × Node) → List Place → ℕ × ℕ → Bool
is_kept ids order kids places p = are_ordered ids order kids (slice_get places p.0) (slice_get places p.1)

abbrev pub grouped_order : List ℕ → List (ℕ × ℕ) → List (ℕ × Node) → List Place → List (ℕ × ℕ)
grouped_order ids order kids places = filter (is_kept ids order kids places) (total_order (length places))

-- the block in which the kids with these ids are one block
abbrev pub grouped_block : ℕ → List ℕ → ℕ → List Node → List (ℕ × ℕ) → Node
grouped_block own ids fresh kids order =
    Block own (grouped_kids ids fresh order (enumerate_from 0 kids)) (grouped_order ids order (enumerate_from 0 kids) (grouped_places ids order (enumerate_from 0 kids)))

-- the tree in which the kids of the block with these ids are one block with the fresh id; a single kid stays as it is
abbrev pub grouped : Node → ℕ → List ℕ → ℕ → Node
grouped root block [] fresh = root
grouped root block (i ∷ []) fresh = root
grouped root block (i ∷ j ∷ more) fresh = remade root block (grouped_block block (i ∷ j ∷ more) fresh)

-- the ids that a grouping takes: none for a single kid
abbrev pub ids_taken : List ℕ → ℕ → List ℕ
ids_taken [] fresh = []
ids_taken (i ∷ []) fresh = []
ids_taken (i ∷ j ∷ more) fresh = fresh ∷ []

-- how many ids a grouping takes
abbrev pub count_taken : List ℕ → ℕ
count_taken [] = 0
count_taken (i ∷ []) = 0
count_taken (i ∷ j ∷ more) = 1

-- the id of the kid that the kids with these ids have become: its own for a single kid, and else the fresh one
abbrev pub side_id : List ℕ → ℕ → ℕ
side_id [] fresh = fresh
side_id (i ∷ []) fresh = i
side_id (i ∷ j ∷ more) fresh = fresh

-- the block's kids are the kids outside and the one that the others have become
abbrev pub HasSide : Node → ℕ → List ℕ → ℕ → Node → Type 0
HasSide root block ids fresh tree = (q : ℕ) → has (kids_at block tree) q ≡ (has (side_id ids fresh ∷ []) q || has (kids_at block root) q && not (has ids q))

-- in the grouped block what stands at one position is before what stands at another exactly where that is said of the
-- two: no pair is lost, since what is before something else stands earlier in the new listing
abbrev pub OrdersAsTold : Node → ℕ → List ℕ → Type 0
OrdersAsTold root block ids = (kids : List Node) (order : List (ℕ × ℕ)) → find_in block root ≡ Some (Block block kids order) → (i j : ℕ) →
    is_before (grouped_order ids order (enumerate_from 0 kids) (grouped_places ids order (enumerate_from 0 kids))) i j
    ≡ is_kept ids order (enumerate_from 0 kids) (grouped_places ids order (enumerate_from 0 kids)) (i, j)
