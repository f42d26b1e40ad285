-- What is promised of the family.
use Rattle.std.specs.Prelude.{◌≡◌, ℕ, true, List, [], ◌∷◌, length, map, Some}
use Rattle.std.specs.List.{slice_get}
use Rattle.bd_tree.specs.declared.node.Node.{Node, Block}
use Rattle.bd_tree.specs.Tree.{id_of}
use Rattle.bd_tree.specs.WellFormed.{IsWellFormed, are_distinct}
use Rattle.bd_shape.specs.Hull.{hull_of}
use Rattle.bd_merge.specs.declared.standing.Found.TheVariants.{At}
use Rattle.bd_merge.specs.declared.window.Window.{Window}
use Rattle.bd_merge.specs.Stands.{Stands}
use Rattle.bd_window.specs.Family.{family_of, hull, kids_in}

-- each of the windows stands in the tree
abbrev pub AllStand : Node → List Window → Type 0
AllStand root [] = Unit {0}
AllStand root (w ∷ ws) = Stands root w At × AllStand root ws

abbrev pub FamilyStands : ℕ → Node → Type 0
FamilyStands width root = IsWellFormed root → AllStand root (family_of width root)

-- the hull of two positions has the kids of the hull that is told by the ids of the two kids there
abbrev pub HullsAreShapes : ℕ → List Node → List (ℕ × ℕ) → ℕ → ℕ → Node → Node → Type 0
HullsAreShapes own kids order i j a b =
    are_distinct (map id_of kids) ≡ true → slice_get kids i ≡ Some a → slice_get kids j ≡ Some b →
    map id_of (kids_in kids (hull order (length kids) i j)) ≡ hull_of (Block own kids order) (id_of a) (id_of b)
