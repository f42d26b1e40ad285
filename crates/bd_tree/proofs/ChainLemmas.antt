-- The chain of a list is well formed; its counts, its depth and its listed linearisation.
use Rattle.std.proofs.Common.{◌≡◌, ℕ, suc, ◌+◌, ◌<◌, ◌≤◌, drop, true, false, not, List, [], ◌∷◌, ◌++◌, length, map, refl, sym, ap, ◌∙◌, arith}
use Rattle.std.specs.List.{list_all}
use Rattle.std.proofs.lemmas.Bool.{and_from, ne_eqb}
use Rattle.std.proofs.lemmas.List.{length-map, append-nil, drop_all}
use Rattle.bd_base.specs.Facts.{has}
use Rattle.bd_base.specs.Pairs.{total_order}
use Rattle.bd_tree.specs.declared.node.Node.{Node, Block}
use Rattle.bd_tree.specs.Chain.{steps_from, chain_of}
use Rattle.bd_tree.specs.Order.{is_order}
use Rattle.bd_tree.specs.Tree.{ids_of, nodes_of, steps_of, depth_of, listed_of, joined, total, greatest}
use Rattle.bd_tree.specs.WellFormed.{are_distinct, has_orders, IsWellFormed}
use Rattle.bd_tree.proofs.NodeLemmas.{ids_of-Step, ids_of-Block, nodes_of-Step, nodes_of-Block, steps_of-Step, steps_of-Block, depth_of-Step, depth_of-Block, listed_of-Step, listed_of-Block, has_orders-Step, has_orders-Block, is_root-Block}
use Rattle.bd_tree.proofs.OrderLemmas.{total_is_order}

length-steps_from : (m : ℕ) (list : List ℕ) → length (steps_from m list) ≡ length list
length-steps_from m [] = refl
length-steps_from m (a ∷ list) = ap suc (length-steps_from (m + 1) list)

abbrev ids_from : ℕ → List ℕ → List ℕ
ids_from m list = joined (map ids_of (steps_from m list))

has_no_less : (m i : ℕ) (list : List ℕ) → i < m → has (ids_from m list) i ≡ false
has_no_less m i [] lt = refl
has_no_less m i (a ∷ list) lt = rw (ids_of-Step m a, ne_eqb m i (omega arith)) (has_no_less (m + 1) i list (omega arith))

distinct_from : (m : ℕ) (list : List ℕ) → are_distinct (ids_from m list) ≡ true
distinct_from m [] = refl
distinct_from m (a ∷ list) = rw (ids_of-Step m a) (and_from _ _ (ap not (has_no_less (m + 1) m list (omega arith))) (distinct_from (m + 1) list))

ordered_from : (m : ℕ) (list : List ℕ) → list_all (λ k. k) (map has_orders (steps_from m list)) ≡ true
ordered_from m [] = refl
ordered_from m (a ∷ list) = rw (has_orders-Step m a) (ordered_from (m + 1) list)

pub chain_well_formed : (list : List ℕ) → IsWellFormed (chain_of list)
chain_well_formed list = record {
  rooted = is_root-Block 0 (steps_from 1 list) (total_order (length list));
  distinct = ap are_distinct (ids_of-Block 0 (steps_from 1 list) (total_order (length list)))
      ∙ and_from _ _ (ap not (has_no_less 1 0 list (omega arith))) (distinct_from 1 list);
  orders = has_orders-Block 0 (steps_from 1 list) (total_order (length list))
      ∙ and_from _ _ (ordered_from 1 list)
      (ap (λ n. is_order n (total_order (length list))) (length-map (steps_from 1 list) has_orders ∙ length-steps_from 1 list) ∙ total_is_order (length list));
}

-- a block of the steps that a whole walk through the list has put, with the total order
pub done_chain : (list : List ℕ) (done kids : List Node) (id i : ℕ) (order : List (ℕ × ℕ)) → length list ≤ i → done ++ steps_from id (drop i list) ≡ steps_from 1 list →
    kids ≡ done → order ≡ total_order (length list) → Block 0 kids order ≡ chain_of list
done_chain list done kids id i order le put same o =
    let whole : kids ≡ steps_from 1 list = same ∙ sym (append-nil done) ∙ ap (λ z. done ++ steps_from id z) (sym (drop_all i list le)) ∙ put in
    ap (λ z. Block 0 z order) whole ∙ ap (λ z. Block 0 (steps_from 1 list) z) o

nodes_from : (m : ℕ) (list : List ℕ) → total (map nodes_of (steps_from m list)) ≡ length list
nodes_from m [] = refl
nodes_from m (a ∷ list) = omega (arith, nodes_of-Step m a, nodes_from (m + 1) list)

pub chain_nodes : (list : List ℕ) → nodes_of (chain_of list) ≡ length list + 1
chain_nodes list = omega (arith, nodes_of-Block 0 (steps_from 1 list) (total_order (length list)), nodes_from 1 list)

steps_count : (m : ℕ) (list : List ℕ) → total (map steps_of (steps_from m list)) ≡ length list
steps_count m [] = refl
steps_count m (a ∷ list) = omega (arith, steps_of-Step m a, steps_count (m + 1) list)

pub chain_steps : (list : List ℕ) → steps_of (chain_of list) ≡ length list
chain_steps list = steps_of-Block 0 (steps_from 1 list) (total_order (length list)) ∙ steps_count 1 list

flat_from : (m : ℕ) (list : List ℕ) → greatest (map depth_of (steps_from m list)) ≤ 1
flat_from m [] = omega arith
flat_from m (a ∷ list) = omega (arith, depth_of-Step m a, flat_from (m + 1) list)

pub chain_depth : (list : List ℕ) → depth_of (chain_of list) ≤ 2
chain_depth list = omega (arith, depth_of-Block 0 (steps_from 1 list) (total_order (length list)), flat_from 1 list)

top_from : (m : ℕ) (list : List ℕ) → greatest (ids_from (m + 1) list) ≤ m + length list
top_from m [] = omega arith
top_from m (a ∷ list) =
    let e : greatest (ids_from (m + 1) (a ∷ list)) ≡ greatest ((m + 1) ∷ ids_from (m + 1 + 1) list) = rw (ids_of-Step (m + 1) a) in
    omega (arith, e, top_from (m + 1) list)

pub chain_top : (list : List ℕ) → greatest (ids_of (chain_of list)) ≤ length list
chain_top list = omega (arith, ap greatest (ids_of-Block 0 (steps_from 1 list) (total_order (length list))), top_from 0 list)

listed_from : (m : ℕ) (list : List ℕ) → joined (map listed_of (steps_from m list)) ≡ list
listed_from m [] = refl
listed_from m (a ∷ list) = rw (listed_of-Step m a) (ap (λ z. a ∷ z) (listed_from (m + 1) list))

pub chain_listed : (list : List ℕ) → listed_of (chain_of list) ≡ list
chain_listed list = listed_of-Block 0 (steps_from 1 list) (total_order (length list)) ∙ listed_from 1 list
