-- Convex sets of kids: no kid outside comes after one member and before another.
use Rattle.std.specs.List.{list_any, list_all, enumerate_from}
use Rattle.std.specs.Prelude.{◌≡◌, ℕ, ◌≤◌, nat_lt, Bool, true, not, ◌&&◌, ◌||◌, List, length, take, drop}
use Rattle.bd_base.specs.Facts.{has}
use Rattle.bd_base.specs.Pairs.{is_before}
use Rattle.bd_tree.specs.declared.node.Node.{Node}
use Rattle.bd_tree.specs.declared.node.Node.TheOpen.{Node-F}
use Rattle.bd_tree.specs.declared.node.Node.TheViews.{out-Node}
use Rattle.bd_tree.specs.Tree.{id_of}

-- whether a kid, here with its position, is a member: its id is among the ids
abbrev pub is_member : List ℕ → ℕ × Node → Bool
is_member ids k = has ids (id_of k.1)

-- whether some of the kids is a member
abbrev pub has_member : List ℕ → List Node → Bool
has_member ids kids = list_any (λ k. has ids (id_of k)) kids

-- the least span of the members: some of the kids below a position are members where it is above the first one, and
-- some of the kids from a position on where it is below the past one
pub record SpansMembers (ids : List ℕ) (kids : List Node) (first past : ℕ) : Type 0 where
  pub begins : first ≤ length kids
  pub ends : past ≤ length kids
  pub before : (j : ℕ) → j ≤ length kids → has_member ids (take j kids) ≡ nat_lt first j
  pub behind : (j : ℕ) → has_member ids (drop j kids) ≡ nat_lt j past

-- whether some member is before the position
abbrev pub is_after_some : List (ℕ × ℕ) → List ℕ → List (ℕ × Node) → ℕ → Bool
is_after_some order ids kids j = list_any (λ k. is_member ids k && is_before order k.0 j) kids

-- whether the position is before some member
abbrev pub is_before_some : List (ℕ × ℕ) → List ℕ → List (ℕ × Node) → ℕ → Bool
is_before_some order ids kids j = list_any (λ k. is_member ids k && is_before order j k.0) kids

-- whether a kid is a member, or isn't both after a member and before one
abbrev pub is_aside : List (ℕ × ℕ) → List ℕ → List (ℕ × Node) → ℕ × Node → Bool
is_aside order ids kids k = is_member ids k || not (is_after_some order ids kids k.0 && is_before_some order ids kids k.0)

-- whether the members are convex among the kids
abbrev pub are_convex : List (ℕ × ℕ) → List ℕ → List (ℕ × Node) → Bool
are_convex order ids kids = list_all (is_aside order ids kids) kids

abbrev pub convex_in_layer : List ℕ → Node-F Node → Bool
convex_in_layer ids (Node-F.Step id action) = true
convex_in_layer ids (Node-F.Block id kids order) = are_convex order ids (enumerate_from 0 kids)

-- whether the kids of a block with these ids are convex; a step has no kids
abbrev pub is_convex_in : Node → List ℕ → Bool
is_convex_in node ids = convex_in_layer ids (out-Node node)
