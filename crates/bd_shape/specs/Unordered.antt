-- A tree in which two kids of a block are unordered.
use Rattle.std.specs.List.{filter}
use Rattle.std.specs.Option.{option_map_or}
use Rattle.std.specs.Prelude.{◌≡◌, ◌≢◌, ℕ, Bool, true, false, not, ◌&&◌, ◌==◌, List, slice_get}
use Rattle.bd_base.specs.Facts.{has}
use Rattle.bd_tree.specs.declared.node.Node.{Node, Block}
use Rattle.bd_tree.specs.Tree.{id_of}
use Rattle.bd_shape.specs.Hull.{between_at}
use Rattle.bd_shape.specs.Kids.{kids_at}
use Rattle.bd_shape.specs.Remade.{remade}

-- two kids of the block may be unordered: they are different, and no kid is after the first and before the second
pub record CanUnorder (root : Node) (block i j : ℕ) : Type 0 where
  pub first : has (kids_at block root) i ≡ true
  pub second : has (kids_at block root) j ≡ true
  pub apart : i ≢ j
  pub free : between_at block i j root ≡ false

-- whether the kid with the id stands at the position
abbrev pub stands_at : List Node → ℕ → ℕ → Bool
stands_at kids id at = option_map_or (λ (kid : Node). id_of kid == id) (slice_get kids at) false

-- the order without the pair that says that the first kid is before the second
abbrev pub unordered_pairs : ℕ → ℕ → List Node → List (ℕ × ℕ) → List (ℕ × ℕ)
unordered_pairs i j kids order = filter (λ p. not (stands_at kids i p.0 && stands_at kids j p.1)) order

abbrev pub unordered_block : ℕ → ℕ → ℕ → List Node → List (ℕ × ℕ) → Node
unordered_block own i j kids order = Block own kids (unordered_pairs i j kids order)

-- the tree in which the first kid of the block is no longer before the second, and all else stays
abbrev pub unordered : Node → ℕ → ℕ → ℕ → Node
unordered root block i j = remade root block (unordered_block block i j)
