-- The merged tree: steps for a list take the place of a window's kids, between the kids in front and those behind.
use Rattle.std.specs.Prelude.{◌≡◌, ℕ, ◌+◌, Bool, true, false, not, ◌&&◌, ◌==◌, if◌then◌else◌, List, ◌++◌, length, map, filter, Option, Some, None, slice_get}
use Rattle.std.specs.List.{enumerate_from}
use Rattle.bd_base.specs.Pairs.{is_before, total_order}
use Rattle.bd_tree.specs.declared.node.Node.{Node, Step, Block}
use Rattle.bd_tree.specs.declared.node.Node.TheOpen.{Node-F}
use Rattle.bd_tree.specs.declared.node.Node.TheFolds.{para-Node}
use Rattle.bd_tree.specs.Chain.{steps_from}
use Rattle.bd_tree.specs.Convex.{is_member, is_after_some, is_before_some}
use Rattle.bd_tree.specs.Tree.{id_of, total}
use Rattle.bd_merge.specs.declared.merging.Place.{Place}
use Rattle.bd_merge.specs.declared.merging.Place.TheVariants.{Front, New, Back}
use Rattle.bd_merge.specs.declared.window.Lean.{Lean}
use Rattle.bd_merge.specs.declared.window.Lean.TheVariants.{Early, Late}
use Rattle.bd_merge.specs.declared.window.Window.{Window}

-- whether the kid at the position, if it is outside the window, goes in front of it
abbrev pub goes_first : Lean → List (ℕ × ℕ) → List ℕ → List (ℕ × Node) → ℕ → Bool
goes_first Early order ids kids j = not (is_after_some order ids kids j)
goes_first Late order ids kids j = is_before_some order ids kids j

-- whether the kid is outside the window and in front of it
abbrev pub is_front : Window → List (ℕ × ℕ) → List (ℕ × Node) → ℕ × Node → Bool
is_front window order kids k = not (is_member (map id_of window.kids) k) && goes_first window.lean order (map id_of window.kids) kids k.0

-- whether the kid is outside the window and behind it
abbrev pub is_back : Window → List (ℕ × ℕ) → List (ℕ × Node) → ℕ × Node → Bool
is_back window order kids k = not (is_member (map id_of window.kids) k) && not (goes_first window.lean order (map id_of window.kids) kids k.0)

abbrev pub fronts : Window → List (ℕ × ℕ) → List (ℕ × Node) → List (ℕ × Node)
fronts window order kids = filter (is_front window order kids) kids

abbrev pub backs : Window → List (ℕ × ℕ) → List (ℕ × Node) → List (ℕ × Node)
backs window order kids = filter (is_back window order kids) kids

-- the new listing: the kids in front, new steps with ids from the number on, and the kids behind
abbrev pub merged_kids : Window → List ℕ → ℕ → List (ℕ × ℕ) → List (ℕ × Node) → List Node
merged_kids window list next order kids = map (λ k. k.1) (fronts window order kids) ++ steps_from next list ++ map (λ k. k.1) (backs window order kids)

-- what stands at each position of the new listing; a kid is told by its old position
abbrev pub merged_places : Window → List ℕ → List (ℕ × ℕ) → List (ℕ × Node) → List Place
merged_places window list order kids = map (λ k. Front k.0) (fronts window order kids) ++ map (λ a. New) list ++ map (λ k. Back k.0) (backs window order kids)

-- whether what stands earlier in the new listing is before what stands later: two kids of one side as they were,
-- the new steps in turn, and else always
abbrev pub is_ordered : List (ℕ × ℕ) → Place → Place → Bool
is_ordered order (Front i) (Front j) = is_before order i j
is_ordered order (Front i) New = true
is_ordered order (Front i) (Back j) = true
is_ordered order New (Front j) = false
is_ordered order New New = true
is_ordered order New (Back j) = true
is_ordered order (Back i) (Front j) = false
is_ordered order (Back i) New = false
is_ordered order (Back i) (Back j) = is_before order i j

abbrev pub are_ordered : List (ℕ × ℕ) → Option Place → Option Place → Bool
are_ordered order None second = false
are_ordered order (Some first) None = false
are_ordered order (Some first) (Some second) = is_ordered order first second

-- whether what stands at the first position is before what stands at the second
abbrev pub is_kept : List (ℕ × ℕ) → List Place → ℕ × ℕ → Bool
is_kept order places p = are_ordered order (slice_get places p.0) (slice_get places p.1)

abbrev pub merged_order : List (ℕ × ℕ) → List Place → List (ℕ × ℕ)
merged_order order places = filter (is_kept order places) (total_order (length places))

-- the window's block, where it has these kids and this order
abbrev pub merged_block : Window → List ℕ → ℕ → ℕ → List Node → List (ℕ × ℕ) → Node
merged_block window list next own kids order =
    Block own (merged_kids window list next order (enumerate_from 0 kids)) (merged_order order (merged_places window list order (enumerate_from 0 kids)))

abbrev pub merge_step : Window → List ℕ → ℕ → Node-F (Node × Node) → Node
merge_step window list next (Node-F.Step own action) = Step own action
merge_step window list next (Node-F.Block own kids order) = if own == window.block then merged_block window list next own (map (λ k. k.0) kids) order else Block own (map (λ k. k.1) kids) order

-- the tree in which the window's block is merged with the list, and all else stays
abbrev pub merged : Node → Window → List ℕ → ℕ → Node
merged root window list next = para-Node Node (merge_step window list next) root

-- a measure of nodes adds up: a block has what its kids have together
abbrev pub AddsUp : (Node → ℕ) → Type 0
AddsUp g = (id : ℕ) (kids : List Node) (order : List (ℕ × ℕ)) → g (Block id kids order) ≡ total (map g kids)

-- of each measure that adds up, a tree loses what the carried kids have, and gains what the new steps have
abbrev pub Exchanges : Node → Window → List ℕ → ℕ → Node → Type 0
Exchanges root window list next tree = (g : Node → ℕ) → AddsUp g → g tree + total (map g window.kids) ≡ g root + total (map g (steps_from next list))
