-- A block with some of its kids alone.
use Rattle.std.specs.List.{enumerate_from, filter}
use Rattle.std.specs.Prelude.{◌≡◌, ℕ, Bool, true, false, List, length, map, Option, Some, None, slice_get}
use Rattle.bd_base.specs.Pairs.{is_before, total_order}
use Rattle.bd_tree.specs.declared.node.Node.{Node, Step, Block}
use Rattle.bd_tree.specs.declared.node.Node.TheOpen.{Node-F}
use Rattle.bd_tree.specs.declared.node.Node.TheViews.{out-Node}
use Rattle.bd_tree.specs.Convex.{is_member}
use Rattle.bd_tree.specs.Order.{is_order}

-- the kids with these ids, with their positions, in the listing
abbrev pub members : List ℕ → List (ℕ × Node) → List (ℕ × Node)
members ids kids = filter (is_member ids) kids

abbrev pub are_before : List (ℕ × ℕ) → Option ℕ → Option ℕ → Bool
are_before order None second = false
are_before order (Some i) None = false
are_before order (Some i) (Some j) = is_before order i j

-- whether the first of two chosen kids was before the second; each is told by its place among the chosen ones
abbrev pub was_before : List (ℕ × ℕ) → List ℕ → ℕ × ℕ → Bool
was_before order places p = are_before order (slice_get places p.0) (slice_get places p.1)

-- the order of the chosen kids among themselves, where these are their old positions
abbrev pub restricted_order : List (ℕ × ℕ) → List ℕ → List (ℕ × ℕ)
restricted_order order places = filter (was_before order places) (total_order (length places))

-- the block of the chosen kids
abbrev pub restricted_block : ℕ → List (ℕ × ℕ) → List (ℕ × Node) → Node
restricted_block own order chosen = Block own (map (λ k. k.1) chosen) (restricted_order order (map (λ k. k.0) chosen))

abbrev pub restrict_layer : List ℕ → Node-F Node → Node
restrict_layer ids (Node-F.Step own action) = Step own action
restrict_layer ids (Node-F.Block own kids order) = restricted_block own order (members ids (enumerate_from 0 kids))

-- the block with the kids with these ids alone, in the old listing and order; a step stays as it is
abbrev pub restricted : Node → List ℕ → Node
restricted node ids = restrict_layer ids (out-Node node)

-- of the block's order, the restricted block has each pair of the chosen kids, and no other
abbrev pub RestrictsAsTold : Node → List ℕ → Type 0
RestrictsAsTold node ids = (own : ℕ) (kids : List Node) (order : List (ℕ × ℕ)) → node ≡ Block own kids order → is_order (length kids) order ≡ true → (i j : ℕ) →
    is_before (restricted_order order (map (λ k. k.0) (members ids (enumerate_from 0 kids)))) i j
    ≡ was_before order (map (λ k. k.0) (members ids (enumerate_from 0 kids))) (i, j)
