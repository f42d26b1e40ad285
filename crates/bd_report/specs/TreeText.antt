-- The text of a tree, byte for byte.
use Rattle.std.specs.Prelude.{ℕ, List, [], ◌∷◌, ◌++◌, cond, map, Option, Some, None, codes, decimal, slice_get, unwrap_or}
use Rattle.bd_task.specs.declared.ground.Action.{Action}
use Rattle.bd_task.specs.TaskView.{TaskView}
use Rattle.bd_tree.specs.declared.node.Node.{Node}
use Rattle.bd_tree.specs.declared.node.Node.TheOpen.{Node-F}
use Rattle.bd_tree.specs.declared.node.Node.TheFolds.{para-Node}
use Rattle.bd_tree.specs.Misfit.{leads_to}
use Rattle.bd_tree.specs.Tree.{joined}
use Rattle.bd_links.specs.Child.{Child}
use Rattle.bd_links.specs.Sound.{child_of}
use Rattle.bd_reason.specs.declared.reason.Reason.{Reason}
use Rattle.bd_reason.specs.declared.reason.Reason.TheVariants.{PC, CD, DP}
use Rattle.bd_reason.specs.Reasons.{fact_of, reasons_of}

abbrev pub newline : List ℕ
newline = 10 ∷ []

-- a name in parentheses
abbrev pub shown : List ℕ → List ℕ
shown name = codes "(" ++ name ++ codes ")"

abbrev pub name_by : Option Action → List ℕ
name_by None = []
name_by (Some a) = a.name

-- the line of a step
abbrev pub step_line : TaskView → List ℕ → ℕ → ℕ → List ℕ
step_line task margin id action = margin ++ codes "step " ++ decimal id ++ codes " " ++ shown (name_by (slice_get task.actions action)) ++ newline

-- the line that a block begins with
abbrev pub block_line : List ℕ → ℕ → List ℕ
block_line margin id = margin ++ codes "block " ++ decimal id ++ newline

abbrev pub kind_of : Reason → List ℕ
kind_of (PC p) = codes " PC "
kind_of (CD p) = codes " CD "
kind_of (DP p) = codes " DP "

-- a reason by its kind and its fact
abbrev pub reason_part : TaskView → Reason → List ℕ
reason_part task r = kind_of r ++ shown (unwrap_or (slice_get task.facts (fact_of r)) [])

-- the line of an ordering: the two ids, and behind them the reason, if there is one
abbrev pub ordering_line : List ℕ → ℕ → ℕ → List ℕ → List ℕ
ordering_line margin i j part = margin ++ decimal i ++ codes " < " ++ decimal j ++ part ++ newline

-- a line for each reason of an ordering
abbrev pub each_reason : TaskView → List ℕ → ℕ → ℕ → List Reason → List ℕ
each_reason task margin i j reasons = joined (map (λ r. ordering_line margin i j (reason_part task r)) reasons)

-- the same, and one line where it has none
abbrev pub reason_lines : TaskView → List ℕ → ℕ → ℕ → List Reason → List ℕ
reason_lines task margin i j [] = ordering_line margin i j []
reason_lines task margin i j (r ∷ rest) = each_reason task margin i j (r ∷ rest)

-- the lines of two kids, the first before the second
abbrev pub two_lines : TaskView → List ℕ → Option Child → Option Child → List ℕ
two_lines task margin None second = []
two_lines task margin (Some a) None = []
two_lines task margin (Some a) (Some b) = reason_lines task margin a.id b.id (reasons_of a.effects b.effects)

-- the lines of a pair of an order, and none where something is between
abbrev pub pair_lines : TaskView → List ℕ → List Child → List (ℕ × ℕ) → ℕ × ℕ → List ℕ
pair_lines task margin kids order p = cond (leads_to order p) [] (two_lines task margin (slice_get kids p.0) (slice_get kids p.1))

-- the lines of an order, pair by pair
abbrev pub order_lines : TaskView → List ℕ → List Child → List (ℕ × ℕ) → List ℕ
order_lines task margin kids order = joined (map (pair_lines task margin kids order) order)

-- what stands in a block stands two bytes further in
abbrev pub inner : List ℕ → List ℕ
inner margin = margin ++ codes "  "

-- a step's line; or a block's line, the lines of each kid in the listing, and then those of the order
abbrev pub tree_step : TaskView → Node-F (Node × (List ℕ → List ℕ)) → List ℕ → List ℕ
tree_step task (Node-F.Step id action) margin = step_line task margin id action
tree_step task (Node-F.Block id kids order) margin =
    block_line margin id
    ++ (joined (map (λ k. k.1 (inner margin)) kids) ++ order_lines task (inner margin) (map (λ k. child_of task.actions k.0) kids) order)

-- the lines of a node, each behind the margin
abbrev pub node_lines : TaskView → Node → List ℕ → List ℕ
node_lines task = para-Node (List ℕ → List ℕ) (tree_step task)

-- the text of a tree
abbrev pub tree_lines : TaskView → Node → List ℕ
tree_lines task root = node_lines task root []
