-- What stands behind the plan of a script, and the script with it.
use Rattle.std.specs.Prelude.{ℕ, List, Option}
use Rattle.bd_task.specs.TaskView.{TaskView}
use Rattle.bd_tree.specs.declared.node.Node.{Node}
use Rattle.plan_core.specs.declared.offer.Offer.{Offer}
use Rattle.script_text.specs.declared.script.Script.{Script}

-- the start tree with the number of its line, 0 where there is none, the stop and the offers
pub record Rest : Type 0 where
  pub start : Option Node
  pub start_line : ℕ
  pub stop : ℕ
  pub offers : List Offer

abbrev pub script_with : TaskView → List ℕ → Rest → Script
script_with task plan rest = record { task = task; plan = plan; start = rest.start; start_line = rest.start_line; stop = rest.stop; offers = rest.offers }
