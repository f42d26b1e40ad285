-- Induction on nodes, and what each definition gives at a step and at a block.
use Rattle.std.proofs.Common.{◌≡◌, ℕ, ◌+◌, Bool, true, ◌&&◌, eqb, List, [], ◌∷◌, length, map, refl, sym, ap, ◌∙◌, subst}
use Rattle.std.specs.List.{list_all}
use Rattle.bd_tree.specs.declared.node.Node.{Node, Step, Block}
use Rattle.bd_tree.specs.declared.node.Node.TheOpen.{Node-F}
use Rattle.bd_tree.specs.declared.node.Node.TheViews.{roll-Node, rolls-Step, rolls-Block}
use Rattle.bd_tree.specs.declared.node.Node.TheFolds.{fold-Node, fold-roll-Node, ind-Node, map-Node}
use Rattle.bd_tree.specs.Order.{is_order}
use Rattle.bd_tree.specs.Tree.{greatest, total, joined, depth_of, depth_step, steps_of, steps_step, nodes_of, nodes_step, id_of, id_step, ids_of, ids_step, listed_of, listed_step, Counted, counted_step, pairs_of, products}
use Rattle.bd_tree.specs.WellFormed.{is_root, root_step, has_orders, orders_step}

-- P holds of each kid
abbrev pub Each : (Node → Type 0) → List Node → Type 0
Each P [] = Unit {0}
Each P (k ∷ ks) = P k × Each P ks

module _ (P : Node → Type 0) (steps : (id a : ℕ) → P (Step id a)) (blocks : (id : ℕ) (kids : List Node) (order : List (ℕ × ℕ)) → Each P kids → P (Block id kids order)) where
  abbrev Shown : Type 0
  Shown = (n : Node) × P n

  each_shown : (ks : List Shown) → Each P (map (λ (e : Shown). e.0) ks)
  each_shown [] = tt
  each_shown (k ∷ ks) = (k.1, each_shown ks)

  by_layer : (x : Node-F Node) (y : Node-F Shown) → map-Node Shown Node (λ (e : Shown). e.0) y ≡ x → P (roll-Node x)
  by_layer x (Node-F.Step id a) is = subst (λ z. P (roll-Node z)) is (subst P (sym (rolls-Step id a)) (steps id a))
  by_layer x (Node-F.Block id ks order) is = subst (λ z. P (roll-Node z)) is
      (subst P (sym (rolls-Block id (map (λ (e : Shown). e.0) ks) order)) (blocks id (map (λ (e : Shown). e.0) ks) order (each_shown ks)))

  -- what holds of each step, and of each block of kids of which it holds, holds of each node
  pub by_node : (n : Node) → P n
  by_node = ind-Node P by_layer

module _ (id a : ℕ) where
  pub depth_of-Step : depth_of (Step id a) ≡ 1
  depth_of-Step = ap depth_of (sym (rolls-Step id a)) ∙ fold-roll-Node ℕ depth_step (Node-F.Step id a)

  pub steps_of-Step : steps_of (Step id a) ≡ 1
  steps_of-Step = ap steps_of (sym (rolls-Step id a)) ∙ fold-roll-Node ℕ steps_step (Node-F.Step id a)

  pub nodes_of-Step : nodes_of (Step id a) ≡ 1
  nodes_of-Step = ap nodes_of (sym (rolls-Step id a)) ∙ fold-roll-Node ℕ nodes_step (Node-F.Step id a)

  pub ids_of-Step : ids_of (Step id a) ≡ id ∷ []
  ids_of-Step = ap ids_of (sym (rolls-Step id a)) ∙ fold-roll-Node (List ℕ) ids_step (Node-F.Step id a)

  pub id_of-Step : id_of (Step id a) ≡ id
  id_of-Step = ap id_of (sym (rolls-Step id a)) ∙ fold-roll-Node ℕ id_step (Node-F.Step id a)

  pub listed_of-Step : listed_of (Step id a) ≡ a ∷ []
  listed_of-Step = ap listed_of (sym (rolls-Step id a)) ∙ fold-roll-Node (List ℕ) listed_step (Node-F.Step id a)

  pub has_orders-Step : has_orders (Step id a) ≡ true
  has_orders-Step = ap has_orders (sym (rolls-Step id a)) ∙ fold-roll-Node Bool orders_step (Node-F.Step id a)

module _ (id : ℕ) (kids : List Node) (order : List (ℕ × ℕ)) where
  pub depth_of-Block : depth_of (Block id kids order) ≡ 1 + greatest (map depth_of kids)
  depth_of-Block = ap depth_of (sym (rolls-Block id kids order)) ∙ fold-roll-Node ℕ depth_step (Node-F.Block id kids order)

  pub steps_of-Block : steps_of (Block id kids order) ≡ total (map steps_of kids)
  steps_of-Block = ap steps_of (sym (rolls-Block id kids order)) ∙ fold-roll-Node ℕ steps_step (Node-F.Block id kids order)

  pub nodes_of-Block : nodes_of (Block id kids order) ≡ 1 + total (map nodes_of kids)
  nodes_of-Block = ap nodes_of (sym (rolls-Block id kids order)) ∙ fold-roll-Node ℕ nodes_step (Node-F.Block id kids order)

  pub ids_of-Block : ids_of (Block id kids order) ≡ id ∷ joined (map ids_of kids)
  ids_of-Block = ap ids_of (sym (rolls-Block id kids order)) ∙ fold-roll-Node (List ℕ) ids_step (Node-F.Block id kids order)

  pub id_of-Block : id_of (Block id kids order) ≡ id
  id_of-Block = ap id_of (sym (rolls-Block id kids order)) ∙ fold-roll-Node ℕ id_step (Node-F.Block id kids order)

  pub listed_of-Block : listed_of (Block id kids order) ≡ joined (map listed_of kids)
  listed_of-Block = ap listed_of (sym (rolls-Block id kids order)) ∙ fold-roll-Node (List ℕ) listed_step (Node-F.Block id kids order)

  pub is_root-Block : is_root (Block id kids order) ≡ eqb id 0
  is_root-Block = ap is_root (sym (rolls-Block id kids order)) ∙ fold-roll-Node Bool root_step (Node-F.Block id kids order)

  pub has_orders-Block : has_orders (Block id kids order) ≡ (list_all (λ k. k) (map has_orders kids) && is_order (length (map has_orders kids)) order)
  has_orders-Block = ap has_orders (sym (rolls-Block id kids order)) ∙ fold-roll-Node Bool orders_step (Node-F.Block id kids order)

-- steps and ordered pairs, counted together
abbrev counted : Node → Counted
counted = fold-Node Counted counted_step

counted-Step : (id a : ℕ) → counted (Step id a) ≡ counted_step (Node-F.Step id a)
counted-Step id a = ap counted (sym (rolls-Step id a)) ∙ fold-roll-Node Counted counted_step (Node-F.Step id a)

counted-Block : (id : ℕ) (kids : List Node) (order : List (ℕ × ℕ)) → counted (Block id kids order) ≡ counted_step (Node-F.Block id (map counted kids) order)
counted-Block id kids order = ap counted (sym (rolls-Block id kids order)) ∙ fold-roll-Node Counted counted_step (Node-F.Block id kids order)

kids_pairs : (kids : List Node) → map (λ (k : Counted). k.pairs) (map counted kids) ≡ map pairs_of kids
kids_pairs [] = refl
kids_pairs (k ∷ ks) = ap (λ z. pairs_of k ∷ z) (kids_pairs ks)

abbrev CountsSteps : Node → Type 0
CountsSteps n = (counted n).steps ≡ steps_of n

kids_steps : (kids : List Node) → Each CountsSteps kids → map (λ (k : Counted). k.steps) (map counted kids) ≡ map steps_of kids
kids_steps [] e = refl
kids_steps (k ∷ ks) e = ap (λ z. z ∷ map (λ (k : Counted). k.steps) (map counted ks)) e.0 ∙ ap (λ z. steps_of k ∷ z) (kids_steps ks e.1)

counts_steps : (n : Node) → CountsSteps n
counts_steps = by_node CountsSteps
    (λ id a. ap (λ (c : Counted). c.steps) (counted-Step id a) ∙ sym (steps_of-Step id a))
    (λ id kids order e. ap (λ (c : Counted). c.steps) (counted-Block id kids order) ∙ ap total (kids_steps kids e) ∙ sym (steps_of-Block id kids order))

all_count_steps : (kids : List Node) → Each CountsSteps kids
all_count_steps [] = tt
all_count_steps (k ∷ ks) = (counts_steps k, all_count_steps ks)

pub pairs_of-Step : (id a : ℕ) → pairs_of (Step id a) ≡ 0
pairs_of-Step id a = ap (λ (c : Counted). c.pairs) (counted-Step id a)

pub pairs_of-Block : (id : ℕ) (kids : List Node) (order : List (ℕ × ℕ)) → pairs_of (Block id kids order) ≡ total (map pairs_of kids) + products order (map steps_of kids)
pairs_of-Block id kids order =
    ap (λ (c : Counted). c.pairs) (counted-Block id kids order)
    ∙ ap (λ z. total z + products order (map (λ (k : Counted). k.steps) (map counted kids))) (kids_pairs kids)
    ∙ ap (λ z. total (map pairs_of kids) + products order z) (kids_steps kids (all_count_steps kids))
