-- Inner: serves this crate's own proofs alone.
-- What is offered so that it is taken.
use Rattle.std.specs.Prelude.{◌≡◌, ℕ, ◌<◌, ◌^◌, Bool, true, false, List, [], ◌∷◌, length, Option, Some, None}
use Rattle.bd_base.specs.Pairs.{without_pair}
use Rattle.bd_task.specs.TaskView.{TaskView}
use Rattle.bd_tree.specs.declared.node.Node.{Node, Block}
use Rattle.bd_tree.specs.Misfit.{order_misfit}
use Rattle.bd_tree.specs.Tree.{id_of, steps_of}
use Rattle.bd_links.specs.Sound.{IsSound}
use Rattle.bd_tight.specs.declared.gain.Gain.{Gain}
use Rattle.plan_core.specs.Core.{CoreView, accepted}
use Rattle.plan_core.specs.Rebuilt.{rebuilt}
use Rattle.plan_core.specs.Replies.{IsLent, MayTighten}
use Rattle.plan_core.specs.declared.offer.Offer.TheVariants.{Tighten}
use Rattle.plan_core.specs.declared.refusal.Refusal.{Refusal}
use Rattle.plan_core.specs.declared.refusal.Refusal.TheVariants.{NoMemory}
use Rattle.plan_rebuild.specs.Rebuilds.{IsReasoned}

-- whether it is want of memory
abbrev pub is_memory : Refusal → Bool
is_memory NoMemory = true
is_memory other = false

-- an order with which the steps of a tree stand flat under a sound root, each pair with nothing between with a reason
pub record RebuildsRightly (task : TaskView) (tree : Node) (order : List (ℕ × ℕ)) : Type 0 where
  pub lent : length order < 2 ^ 32
  pub orderly : order_misfit (steps_of tree) order ≡ None
  pub sound : IsSound task (rebuilt tree order)
  pub reasoned : IsReasoned task (rebuilt tree order)

-- no refusal of the gain's tightening has its condition
pub record MayTake (core : CoreView) (gain : Gain) : Type 0 where
  pub may : MayTighten core gain.block gain.left gain.right
  pub lent : IsLent (Tighten gain.block gain.left gain.right)

-- the gain of two kids of a block, each by itself
abbrev pub pair_if : ℕ → Option Node → Option Node → Option Gain
pair_if block None second = None
pair_if block (Some a) None = None
pair_if block (Some a) (Some b) = Some (record { block = block; left = id_of a ∷ []; right = id_of b ∷ [] })

-- a gain that may be taken, and that takes the pair out of the root's order
pub record TakesPair (core : CoreView) (pair : ℕ × ℕ) (gain : Gain) : Type 0 where
  pub may : MayTake core gain
  pub own : ℕ
  pub kids : List Node
  pub order : List (ℕ × ℕ)
  pub is : core.tree ≡ Block own kids order
  pub leaves : (accepted (Tighten gain.block gain.left gain.right) core).tree ≡ Block own kids (without_pair pair.0 pair.1 order)
