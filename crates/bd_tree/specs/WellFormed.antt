-- Well-formed trees: the root is block 0, ids are distinct, and each order is one.
use Rattle.std.specs.List.{list_all}
use Rattle.std.specs.Prelude.{◌≡◌, ℕ, Bool, true, false, not, ◌&&◌, ◌==◌, List, [], ◌∷◌, length}
use Rattle.bd_base.specs.Facts.{has}
use Rattle.bd_tree.specs.declared.node.Node.{Node}
use Rattle.bd_tree.specs.declared.node.Node.TheOpen.{Node-F}
use Rattle.bd_tree.specs.declared.node.Node.TheFolds.{fold-Node}
use Rattle.bd_tree.specs.Order.{is_order}
use Rattle.bd_tree.specs.Tree.{ids_of}

-- whether each number is unlike all later ones
abbrev pub are_distinct : List ℕ → Bool
are_distinct [] = true
are_distinct (x ∷ xs) = not (has xs x) && are_distinct xs

abbrev pub root_step : Node-F Bool → Bool
root_step (Node-F.Step id action) = false
root_step (Node-F.Block id kids order) = id == 0

-- whether the node is block 0
abbrev pub is_root : Node → Bool
is_root = fold-Node Bool root_step

abbrev pub orders_step : Node-F Bool → Bool
orders_step (Node-F.Step id action) = true
orders_step (Node-F.Block id kids order) = list_all (λ k. k) kids && is_order (length kids) order

-- whether the order of each block is an order of its kids
abbrev pub has_orders : Node → Bool
has_orders = fold-Node Bool orders_step

pub record IsWellFormed (root : Node) : Type 0 where
  pub rooted : is_root root ≡ true
  pub distinct : are_distinct (ids_of root) ≡ true
  pub orders : has_orders root ≡ true
