-- A tightened tree: it is well formed, and what adds up is as it was.
use Rattle.std.proofs.Common.{◌≡◌, ℕ, ◌+◌, ◌<◌, ◌≤◌, true, false, ◌&&◌, List, [], ◌∷◌, ap, ◌∙◌, arith}
use Rattle.std.proofs.lemmas.Bool.{and_parts, not-true}
use Rattle.bd_tree.specs.declared.node.Node.{Node}
use Rattle.bd_tree.specs.Tree.{ids_of, greatest, nodes_of}
use Rattle.bd_tree.specs.WellFormed.{IsWellFormed}
use Rattle.bd_shape.specs.Kids.{convex_at}
use Rattle.bd_shape.specs.Hull.{between_at}
use Rattle.bd_shape.specs.Grouped.{CanGroup, count_taken, grouped, side_id}
use Rattle.bd_shape.specs.Measures.{AddUpAlike}
use Rattle.bd_shape.specs.Tightened.{both_grouped, both_taken, right_fresh, tightened}
use Rattle.plan_core.specs.Sides.{CanTighten, are_sides, are_two, has_sides}
use Rattle.bd_shape.proofs.UnorderLemmas.{unordered_measures, unordered_nodes, unordered_ids, unordered_well_formed}
use Rattle.bd_shape.proofs.WholeLemmas as whole
use Rattle.plan_core.proofs.SideLemmas.{two_from, can_left, can_right, can_unorder}

-- a tree stays well formed where kids are grouped
grouped_well_formed : (root : Node) (block : ℕ) (ids : List ℕ) (fresh : ℕ) → IsWellFormed root → CanGroup root block ids → greatest (ids_of root) < fresh → IsWellFormed (grouped root block ids fresh)
grouped_well_formed root block [] fresh formed can above = formed
grouped_well_formed root block (i ∷ []) fresh formed can above = formed
grouped_well_formed root block (i ∷ j ∷ more) fresh formed can above = whole.grouped_well_formed root block (i ∷ j ∷ more) fresh formed can above

pub few_taken : (ids : List ℕ) → count_taken ids ≤ 1
few_taken [] = omega arith
few_taken (i ∷ []) = omega arith
few_taken (i ∷ j ∷ more) = omega arith

module _ (root : Node) (block : ℕ) (left right : List ℕ) (next : ℕ) where
  -- what is known of the sides, by the test's parts
  pub record AreSides : Type 0 where
    pub two : are_two left right ≡ true
    pub left_convex : convex_at block left root ≡ true
    pub right_convex : convex_at block right (grouped root block left next) ≡ true
    pub free : between_at block (side_id left next) (side_id right (right_fresh left next)) (both_grouped root block left right next) ≡ false

  pub sides_from : are_sides root block left right next ≡ true → AreSides
  sides_from e =
      let last = and_parts (are_two left right && convex_at block left root && convex_at block right (grouped root block left next)) _ e in
      let third = and_parts (are_two left right && convex_at block left root) (convex_at block right (grouped root block left next)) last.0 in
      let second = and_parts (are_two left right) (convex_at block left root) third.0 in
      record { two = second.0; left_convex = second.1; right_convex = third.1; free = not-true _ last.1 }

  module _ (formed : IsWellFormed root) (fresh : greatest (ids_of root) < next) where
    pub can_tighten : has_sides root block left right ≡ true → are_sides root block left right next ≡ true → CanTighten root block left right next
    can_tighten there sides =
        let parts = sides_from sides in
        let two = two_from root block left right next there parts.two in
        let first = can_left root block left right next there two parts.left_convex in
        let side = whole.side root block next formed left first in
        let second = can_right root block left right next there two side parts.right_convex in
        let side_two = whole.side (grouped root block left next) block (right_fresh left next) (grouped_well_formed root block left next formed first fresh) right second in
        record { left_groups = first; right_groups = second; unorders = can_unorder root block left right next there two side fresh side_two parts.free }

    module _ (can : CanTighten root block left right next) where
      abbrev once_grouped : Node
      once_grouped = grouped root block left next

      abbrev twice_grouped : Node
      twice_grouped = both_grouped root block left right next

      once_formed : IsWellFormed once_grouped
      once_formed = grouped_well_formed root block left next formed can.left_groups fresh

      once_fresh : greatest (ids_of once_grouped) < right_fresh left next
      once_fresh = whole.top root block next formed left can.left_groups fresh

      twice_formed : IsWellFormed twice_grouped
      twice_formed = grouped_well_formed once_grouped block right (right_fresh left next) once_formed can.right_groups once_fresh

      pub tightened_well_formed : IsWellFormed (tightened root block left right next)
      tightened_well_formed = unordered_well_formed twice_grouped block _ _ twice_formed can.unorders

      pub tightened_alike : AddUpAlike root (tightened root block left right next)
      tightened_alike g adds =
          unordered_measures twice_grouped block _ _ twice_formed can.unorders g adds
          ∙ whole.measures once_grouped block (right_fresh left next) once_formed right can.right_groups g adds
          ∙ whole.measures root block next formed left can.left_groups g adds

      pub tightened_nodes : nodes_of (tightened root block left right next) ≡ nodes_of root + both_taken left right
      tightened_nodes = omega (
        arith,
        unordered_nodes twice_grouped block (side_id left next) (side_id right (right_fresh left next)) twice_formed can.unorders,
        whole.nodes once_grouped block (right_fresh left next) once_formed right can.right_groups,
        whole.nodes root block next formed left can.left_groups,
      )

      pub tightened_top : greatest (ids_of (tightened root block left right next)) < next + both_taken left right
      tightened_top = omega (
        arith,
        ap greatest (unordered_ids twice_grouped block (side_id left next) (side_id right (right_fresh left next)) twice_formed can.unorders),
        whole.top once_grouped block (right_fresh left next) once_formed right can.right_groups once_fresh,
      )
