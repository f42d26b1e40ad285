-- A rebuilt tree has the steps of the old one: what adds up stays, ids are among the old ones, and it is well formed where
-- the order is one.
use Rattle.std.proofs.Common.{◌≡◌, ℕ, ◌+◌, ◌≤◌, max, Bool, true, false, eqb, List, [], ◌∷◌, ◌++◌, length, map, None, refl, sym, ap, ◌∙◌, arith}
use Rattle.std.specs.List.{list_all}
use Rattle.std.proofs.lemmas.Bool.{and_parts, and_from, both_ways, eqb-true}
use Rattle.std.proofs.lemmas.List.{length-map}
use Rattle.bd_tree.specs.declared.node.Node.{Node, Step, Block}
use Rattle.bd_tree.specs.declared.node.Node.TheOpen.{Node-F}
use Rattle.bd_tree.specs.declared.node.Node.TheViews.{rolls-Step, rolls-Block}
use Rattle.bd_tree.specs.declared.node.Node.TheFolds.{fold-roll-Node}
use Rattle.bd_tree.specs.Misfit.{order_misfit}
use Rattle.bd_tree.specs.Order.{is_order}
use Rattle.bd_tree.specs.Tree.{depth_of, steps_of, nodes_of, ids_of, greatest, total, joined}
use Rattle.bd_tree.specs.WellFormed.{is_root, root_step, has_orders, IsWellFormed}
use Rattle.bd_tree.proofs.NodeLemmas.{Each, by_node, depth_of-Step, depth_of-Block, steps_of-Step, steps_of-Block, nodes_of-Step, nodes_of-Block, ids_of-Block, is_root-Block, has_orders-Block}
use Rattle.bd_tree.proofs.BoundLemmas.{greatest-append}
use Rattle.bd_tree.proofs.MisfitLemmas.{order_from}
use Rattle.bd_merge.specs.Merged.{AddsUp}
use Rattle.bd_merge.proofs.IdLemmas.{times, times_in, times_in-Step, times_in-Block, times_once, distinct_if}
use Rattle.plan_core.specs.Rebuilt.{joined_nodes, leaves_step, leaves_of, rebuilt}
use Rattle.plan_core.proofs.MeasureLemmas.{total-append}

pub leaves-Step : (id a : ℕ) → leaves_of (Step id a) ≡ Step id a ∷ []
leaves-Step id a = ap leaves_of (sym (rolls-Step id a)) ∙ fold-roll-Node (List Node) leaves_step (Node-F.Step id a)

pub leaves-Block : (id : ℕ) (kids : List Node) (order : List (ℕ × ℕ)) → leaves_of (Block id kids order) ≡ joined_nodes (map leaves_of kids)
leaves-Block id kids order = ap leaves_of (sym (rolls-Block id kids order)) ∙ fold-roll-Node (List Node) leaves_step (Node-F.Block id kids order)

abbrev leaves_in : List Node → List Node
leaves_in kids = joined_nodes (map leaves_of kids)

-- what adds up is the sum of the steps'
module _ (g : Node → ℕ) (adds : AddsUp g) where
  abbrev Sums : Node → Type 0
  Sums n = total (map g (leaves_of n)) ≡ g n

  sums_in : (kids : List Node) → Each Sums kids → total (map g (leaves_in kids)) ≡ total (map g kids)
  sums_in [] e = refl
  sums_in (k ∷ ks) e = omega (arith, total-append g (leaves_of k) (leaves_in ks), e.0, sums_in ks e.1)

  pub sum_of_leaves : (n : Node) → Sums n
  sum_of_leaves = by_node Sums
      (λ id a. omega (arith, ap (λ z. total (map g z)) (leaves-Step id a)))
      (λ id kids order e. ap (λ z. total (map g z)) (leaves-Block id kids order) ∙ sums_in kids e ∙ sym (adds id kids order))

-- two counts that are the same at steps are the same over the steps
module _ (g h : Node → ℕ) (same : (id a : ℕ) → g (Step id a) ≡ h (Step id a)) where
  abbrev Agree : Node → Type 0
  Agree n = total (map g (leaves_of n)) ≡ total (map h (leaves_of n))

  agree_in : (kids : List Node) → Each Agree kids → total (map g (leaves_in kids)) ≡ total (map h (leaves_in kids))
  agree_in [] e = refl
  agree_in (k ∷ ks) e = omega (arith, total-append g (leaves_of k) (leaves_in ks), total-append h (leaves_of k) (leaves_in ks), e.0, agree_in ks e.1)

  leaves_agree : (n : Node) → Agree n
  leaves_agree = by_node Agree
      (λ id a. omega (arith, ap (λ z. total (map g z)) (leaves-Step id a), ap (λ z. total (map h z)) (leaves-Step id a), same id a))
      (λ id kids order e. ap (λ z. total (map g z)) (leaves-Block id kids order) ∙ agree_in kids e ∙ sym (ap (λ z. total (map h z)) (leaves-Block id kids order)))

steps_of_leaves : (n : Node) → total (map steps_of (leaves_of n)) ≡ steps_of n
steps_of_leaves = sum_of_leaves steps_of steps_of-Block

nodes_of_leaves : (n : Node) → total (map nodes_of (leaves_of n)) ≡ steps_of n
nodes_of_leaves n = leaves_agree nodes_of steps_of (λ id a. nodes_of-Step id a ∙ sym (steps_of-Step id a)) n ∙ steps_of_leaves n

ones : (xs : List Node) → total (map (λ (n : Node). 1) xs) ≡ length xs
ones [] = refl
ones (x ∷ xs) = omega (arith, ones xs)

pub length_of_leaves : (n : Node) → length (leaves_of n) ≡ steps_of n
length_of_leaves n = sym (ones (leaves_of n)) ∙ leaves_agree (λ m. 1) steps_of (λ id a. sym (steps_of-Step id a)) n ∙ steps_of_leaves n

-- a test that a block passes only where its kids do is passed by the steps
module _ (t : Node → Bool) (inner : (id : ℕ) (kids : List Node) (order : List (ℕ × ℕ)) → t (Block id kids order) ≡ true → list_all (λ b. b) (map t kids) ≡ true) where
  abbrev pub all_pass : List Node → Bool
  all_pass ns = list_all (λ b. b) (map t ns)

  pass-append : (xs ys : List Node) → all_pass xs ≡ true → all_pass ys ≡ true → all_pass (xs ++ ys) ≡ true
  pass-append [] ys a b = b
  pass-append (x ∷ xs) ys a b = let p = and_parts (t x) (all_pass xs) a in and_from _ _ p.0 (pass-append xs ys p.1 b)

  abbrev Passes : Node → Type 0
  Passes n = t n ≡ true → all_pass (leaves_of n) ≡ true

  pass_in : (kids : List Node) → Each Passes kids → all_pass kids ≡ true → all_pass (leaves_in kids) ≡ true
  pass_in [] e a = refl
  pass_in (k ∷ ks) e a = let p = and_parts (t k) (all_pass ks) a in pass-append (leaves_of k) (leaves_in ks) (e.0 p.0) (pass_in ks e.1 p.1)

  pub leaves_pass : (n : Node) → Passes n
  leaves_pass = by_node Passes
      (λ id a h. ap all_pass (leaves-Step id a) ∙ and_from (t (Step id a)) true h refl)
      (λ id kids order e h. ap all_pass (leaves-Block id kids order) ∙ pass_in kids e (inner id kids order h))

-- steps are flat
flat-append : (xs ys : List Node) → greatest (map depth_of xs) ≤ 1 → greatest (map depth_of ys) ≤ 1 → greatest (map depth_of (xs ++ ys)) ≤ 1
flat-append [] ys a b = b
flat-append (x ∷ xs) ys a b = omega (arith, a, flat-append xs ys (omega (arith, a)) b)

abbrev IsFlat : Node → Type 0
IsFlat n = greatest (map depth_of (leaves_of n)) ≤ 1

flat_in : (kids : List Node) → Each IsFlat kids → greatest (map depth_of (leaves_in kids)) ≤ 1
flat_in [] e = omega arith
flat_in (k ∷ ks) e = flat-append (leaves_of k) (leaves_in ks) e.0 (flat_in ks e.1)

leaves_flat : (n : Node) → IsFlat n
leaves_flat = by_node IsFlat
    (λ id a. omega (arith, ap (λ z. greatest (map depth_of z)) (leaves-Step id a), depth_of-Step id a))
    (λ id kids order e. omega (arith, ap (λ z. greatest (map depth_of z)) (leaves-Block id kids order), flat_in kids e))

-- the steps' ids are the node's, each as often at most
module _ (q : ℕ) where
  abbrev IsRarer : Node → Type 0
  IsRarer n = total (map (times_in q) (leaves_of n)) ≤ times_in q n

  rarer_in : (kids : List Node) → Each IsRarer kids → total (map (times_in q) (leaves_in kids)) ≤ total (map (times_in q) kids)
  rarer_in [] e = omega arith
  rarer_in (k ∷ ks) e = omega (arith, total-append (times_in q) (leaves_of k) (leaves_in ks), e.0, rarer_in ks e.1)

  rarer : (n : Node) → IsRarer n
  rarer = by_node IsRarer
      (λ id a. omega (arith, ap (λ z. total (map (times_in q) z)) (leaves-Step id a)))
      (λ id kids order e. omega (arith, ap (λ z. total (map (times_in q) z)) (leaves-Block id kids order), rarer_in kids e, times_in-Block q id kids order))

  each_rarer : (kids : List Node) → Each IsRarer kids
  each_rarer [] = tt
  each_rarer (k ∷ ks) = (rarer k, each_rarer ks)

  abbrev IsRarerRoot : Node → Type 0
  IsRarerRoot n = is_root n ≡ true → (order : List (ℕ × ℕ)) → times_in q (rebuilt n order) ≤ times_in q n

  is_root-Step : (id a : ℕ) → is_root (Step id a) ≡ false
  is_root-Step id a = ap is_root (sym (rolls-Step id a)) ∙ fold-roll-Node Bool root_step (Node-F.Step id a)

  pub rarer_root : (n : Node) → IsRarerRoot n
  rarer_root = by_node IsRarerRoot
      (λ id a r order. absurd (both_ways (is_root (Step id a)) (is_root-Step id a) r))
      (λ id kids old e r order.
      let zero_id : id ≡ 0 = eqb-true id 0 (sym (is_root-Block id kids old) ∙ r) in
      omega (
        arith,
        times_in-Block q 0 (leaves_of (Block id kids old)) order,
        times_in-Block q id kids old,
        ap (λ z. Rattle.bd_merge.proofs.IdLemmas.one_if (eqb z q)) zero_id,
        ap (λ z. total (map (times_in q) z)) (leaves-Block id kids old),
        rarer_in kids (each_rarer kids),
      ))

-- no id of the steps is greater than the node's
top-append : (xs ys : List Node) → greatest (joined (map ids_of (xs ++ ys))) ≡ max (greatest (joined (map ids_of xs))) (greatest (joined (map ids_of ys)))
top-append [] ys = omega arith
top-append (x ∷ xs) ys = omega (arith, greatest-append (ids_of x) (joined (map ids_of (xs ++ ys))), greatest-append (ids_of x) (joined (map ids_of xs)), top-append xs ys)

abbrev IsNoHigher : Node → Type 0
IsNoHigher n = greatest (joined (map ids_of (leaves_of n))) ≤ greatest (ids_of n)

top_in : (kids : List Node) → Each IsNoHigher kids → greatest (joined (map ids_of (leaves_in kids))) ≤ greatest (joined (map ids_of kids))
top_in [] e = omega arith
top_in (k ∷ ks) e = omega (arith, top-append (leaves_of k) (leaves_in ks), greatest-append (ids_of k) (joined (map ids_of ks)), e.0, top_in ks e.1)

top_of_leaves : (n : Node) → IsNoHigher n
top_of_leaves = by_node IsNoHigher
    (λ id a. omega (arith, ap (λ z. greatest (joined (map ids_of z))) (leaves-Step id a), greatest-append (ids_of (Step id a)) []))
    (λ id kids order e. omega (arith, ap (λ z. greatest (joined (map ids_of z))) (leaves-Block id kids order), top_in kids e, ap greatest (ids_of-Block id kids order)))

module _ (root : Node) (order : List (ℕ × ℕ)) where
  pub rebuilt_steps : steps_of (rebuilt root order) ≡ steps_of root
  rebuilt_steps = steps_of-Block 0 (leaves_of root) order ∙ steps_of_leaves root

  pub rebuilt_nodes : nodes_of (rebuilt root order) ≡ 1 + steps_of root
  rebuilt_nodes = nodes_of-Block 0 (leaves_of root) order ∙ ap (λ n. 1 + n) (nodes_of_leaves root)

  pub rebuilt_depth : depth_of (rebuilt root order) ≤ 2
  rebuilt_depth = omega (arith, depth_of-Block 0 (leaves_of root) order, leaves_flat root)

  pub rebuilt_top : greatest (ids_of (rebuilt root order)) ≤ greatest (ids_of root)
  rebuilt_top = omega (arith, ap greatest (ids_of-Block 0 (leaves_of root) order), top_of_leaves root)

  pub rebuilt_well_formed : IsWellFormed root → order_misfit (steps_of root) order ≡ None → IsWellFormed (rebuilt root order)
  rebuilt_well_formed well fits = record {
    rooted = is_root-Block 0 (leaves_of root) order;
    distinct = distinct_if (ids_of (rebuilt root order)) (λ q. omega (arith, rarer_root q root well.rooted order, times_once q (ids_of root) well.distinct));
    orders = has_orders-Block 0 (leaves_of root) order ∙ and_from _ _
        (leaves_pass has_orders (λ id kids o h. (and_parts _ _ (sym (has_orders-Block id kids o) ∙ h)).0) root well.orders)
        (ap (λ n. is_order n order) (length-map (leaves_of root) has_orders ∙ length_of_leaves root) ∙ order_from (steps_of root) order fits);
  }
