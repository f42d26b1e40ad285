-- Definitions over trees: each is a step over one level, with the value of each kid in its place.
use Rattle.std.specs.Prelude.{ℕ, ◌+◌, ◌*◌, ◌==◌, max, List, [], ◌∷◌, ◌++◌, map, Option, Some, None, if◌then◌else◌, slice_index}
use Rattle.bd_tree.specs.declared.node.Node.{Node, Step, Block}
use Rattle.bd_tree.specs.declared.node.Node.TheOpen.{Node-F}
use Rattle.bd_tree.specs.declared.node.Node.TheFolds.{fold-Node, para-Node}

-- the greatest of a list, or 0
abbrev pub greatest : List ℕ → ℕ
greatest [] = 0
greatest (n ∷ ns) = max n (greatest ns)

-- the sum of a list
abbrev pub total : List ℕ → ℕ
total [] = 0
total (n ∷ ns) = n + total ns

-- the lists one after another
abbrev pub joined : List (List ℕ) → List ℕ
joined [] = []
joined (k ∷ ks) = k ++ joined ks

abbrev pub depth_step : Node-F ℕ → ℕ
depth_step (Node-F.Step id action) = 1
depth_step (Node-F.Block id kids order) = 1 + greatest kids

-- 1 for a step, and 1 more than the greatest of the kids for a block
abbrev pub depth_of : Node → ℕ
depth_of = fold-Node ℕ depth_step

abbrev pub steps_step : Node-F ℕ → ℕ
steps_step (Node-F.Step id action) = 1
steps_step (Node-F.Block id kids order) = total kids

-- how many steps it has
abbrev pub steps_of : Node → ℕ
steps_of = fold-Node ℕ steps_step

abbrev pub nodes_step : Node-F ℕ → ℕ
nodes_step (Node-F.Step id action) = 1
nodes_step (Node-F.Block id kids order) = 1 + total kids

-- how many nodes it has, itself among them
abbrev pub nodes_of : Node → ℕ
nodes_of = fold-Node ℕ nodes_step

abbrev pub listed_step : Node-F (List ℕ) → List ℕ
listed_step (Node-F.Step id action) = action ∷ []
listed_step (Node-F.Block id kids order) = joined kids

-- the listed linearisation: the kids in their listing
abbrev pub listed_of : Node → List ℕ
listed_of = fold-Node (List ℕ) listed_step

abbrev pub id_step : Node-F ℕ → ℕ
id_step (Node-F.Step id action) = id
id_step (Node-F.Block id kids order) = id

-- the node's own id
abbrev pub id_of : Node → ℕ
id_of = fold-Node ℕ id_step

abbrev pub ids_step : Node-F (List ℕ) → List ℕ
ids_step (Node-F.Step id action) = id ∷ []
ids_step (Node-F.Block id kids order) = id ∷ joined kids

-- the ids, each node's before its kids'
abbrev pub ids_of : Node → List ℕ
ids_of = fold-Node (List ℕ) ids_step

-- for each pair of an order, the product of the two kids' numbers of steps, added up
abbrev pub products : List (ℕ × ℕ) → List ℕ → ℕ
products [] steps = 0
products (p ∷ order) steps = slice_index steps p.0 * slice_index steps p.1 + products order steps

pub record Counted : Type 0 where
  pub steps : ℕ
  pub pairs : ℕ

abbrev pub counted_step : Node-F Counted → Counted
counted_step (Node-F.Step id action) = record { steps = 1; pairs = 0 }
counted_step (Node-F.Block id kids order) = record {
  steps = total (map (λ (k : Counted). k.steps) kids);
  pairs = total (map (λ (k : Counted). k.pairs) kids) + products order (map (λ (k : Counted). k.steps) kids);
}

-- the ordered step pairs
abbrev pub pairs_of : Node → ℕ
pairs_of node = (fold-Node Counted counted_step node).pairs

-- the first that is there
abbrev pub first_some : {A : Type 0} → List (Option A) → Option A
first_some [] = None
first_some (None ∷ rest) = first_some rest
first_some (Some n ∷ rest) = Some n

abbrev pub find_step : ℕ → Node-F (Node × Option Node) → Option Node
find_step id (Node-F.Step own action) = if own == id then Some (Step own action) else None
find_step id (Node-F.Block own kids order) = if own == id then Some (Block own (map (λ k. k.0) kids) order) else first_some (map (λ k. k.1) kids)

-- the first node with an id, each before its kids
abbrev pub find_in : ℕ → Node → Option Node
find_in id = para-Node (Option Node) (find_step id)
