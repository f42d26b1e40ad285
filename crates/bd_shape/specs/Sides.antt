-- The positions after some of a block's kids, and those before some of them.
use Rattle.std.specs.Prelude.{◌≡◌, ℕ, List}
use Rattle.std.specs.List.{enumerate_from}
use Rattle.bd_base.specs.Facts.{has}
use Rattle.bd_tree.specs.declared.node.Node.{Node}
use Rattle.bd_tree.specs.Convex.{is_after_some, is_before_some}
use Rattle.bd_shape.specs.declared.sides.Sides.{Sides}

-- the sides are those of the kids with these ids
pub record AreSides (order : List (ℕ × ℕ)) (ids : List ℕ) (kids : List Node) (sides : Sides) : Type 0 where
  pub after : (q : ℕ) → has sides.after q ≡ is_after_some order ids (enumerate_from 0 kids) q
  pub before : (q : ℕ) → has sides.before q ≡ is_before_some order ids (enumerate_from 0 kids) q
