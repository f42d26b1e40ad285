-- What rebuilds leave: trees in which each ordering has a reason.
use Rattle.std.specs.Prelude.{◌≡◌, ℕ, ◌+◌, ◌≤◌, Bool, List, length, Some, slice_get}
use Rattle.bd_task.specs.TaskView.{TaskView}
use Rattle.bd_task.specs.declared.ground.Action.{Action}
use Rattle.bd_tree.specs.declared.node.Node.{Node}
use Rattle.bd_tree.specs.declared.node.Node.TheOpen.{Node-F}
use Rattle.bd_tree.specs.declared.node.Node.TheViews.{out-Node}
use Rattle.bd_reason.specs.Reasons.{HaveReasons}
use Rattle.plan_core.specs.Core.{CoreView, is_closed}
use Rattle.plan_core.specs.Law.{tree_at}
use Rattle.plan_core.specs.declared.offer.Offer.TheVariants.{Rebuild}
use Rattle.plan_rebuild.specs.Grown.{Grows}

abbrev pub IsReasonedLayer : List Action → Node-F Node → Type 0
IsReasonedLayer actions (Node-F.Step id action) = ⊥
IsReasonedLayer actions (Node-F.Block id kids order) = HaveReasons actions kids order

-- each pair of the root with nothing between has a reason
abbrev pub IsReasoned : TaskView → Node → Type 0
IsReasoned task root = IsReasonedLayer task.actions (out-Node root)

-- each rebuild that is added gives a tree in which each pair with nothing between has a reason
abbrev pub AreRebuilt : CoreView → CoreView → Type 0
AreRebuilt before after = (index : ℕ) (order : List (ℕ × ℕ)) → length before.history ≤ index → slice_get after.history index ≡ Some (Rebuild order) → IsReasoned after.task (tree_at after (index + 1))

-- a core that grew, with such rebuilds alone
pub record GrowsRightly (before after : CoreView) : Type 0 where
  pub grows : Grows before after
  pub rebuilt : AreRebuilt before after

-- whether it takes no more offers
abbrev pub closed : CoreView → Bool
closed core = is_closed core.stop core.history
