-- A core may begin on the tree that a script starts from, and finds no fault in it.
use Rattle.std.proofs.Common.{◌≡◌, ℕ, ◌<◌, ◌≤◌, List, Option, Some, None, Err, All, length, unwrap_or, sym, ap, ◌∙◌, subst, arith}
use Rattle.std.proofs.lemmas.List.Elements.{recursion_from_All}
use Rattle.bd_task.specs.TaskView.{TaskView}
use Rattle.bd_task.specs.Valid.{IsValid}
use Rattle.bd_tree.specs.declared.node.Node.{Node}
use Rattle.bd_tree.specs.Chain.{chain_of}
use Rattle.bd_tree.specs.Tree.{steps_of, listed_of}
use Rattle.bd_tree.proofs.ChainLemmas.{chain_well_formed, chain_nodes, chain_steps, chain_depth, chain_top}
use Rattle.bd_tree.proofs.DecidingLemmas.{lin_length}
use Rattle.bd_tree.proofs.ListedLemmas.{listed_linearises}
use Rattle.bd_links.specs.declared.parts.Fault.{Fault}
use Rattle.bd_links.specs.Sound.{first_fault, IsSound}
use Rattle.bd_links.proofs.ChainLaw.{chain_law}
use Rattle.bd_links.proofs.Faultless.{none_where_sound}
use Rattle.bd_links.proofs.InRange.{chain_below}
use Rattle.plan_core.specs.Core.{Begins}
use Rattle.plan_core.specs.Law.{MayBegin}
use Rattle.plan_core.specs.declared.judge.BeginErr.{BeginErr}
use Rattle.plan_core.specs.declared.judge.BeginErr.TheVariants.{Unsound}
use Rattle.script_text.specs.Range.{StartsBy, StartsWell}
use Rattle.script_text.specs.declared.script.Script.{Script}
use Rattle.bd_top.specs.Prepared.{IsRunnable, start_of}

-- a start tree has as many steps as the plan that it lists
steps_listed : (root : Node) (actions bytes : ℕ) (plan : List ℕ) → StartsWell actions bytes plan root → steps_of root ≡ length plan
steps_listed root actions bytes plan well = sym (lin_length root (listed_of root) (listed_linearises root well.formed.orders)) ∙ ap length well.lists

module _ (task : TaskView) (plan : List ℕ) (there : All (λ a. a < length task.actions) plan) (few : length plan ≤ 2_000) where
  chain_sound : IsValid task plan → IsSound task (chain_of plan)
  chain_sound valid = (chain_law task plan (recursion_from_All (λ a. a < length task.actions) plan there)).1 valid

  chain_may : MayBegin task (chain_of plan)
  chain_may = record {
    formed = chain_well_formed plan;
    actions = chain_below (length task.actions) plan (recursion_from_All (λ a. a < length task.actions) plan there);
    shallow = omega (arith, chain_depth plan);
    short = omega (arith, chain_steps plan);
    few = omega (arith, chain_nodes plan);
    ids = omega (arith, chain_top plan);
  }

  root_may : (root : Node) → StartsWell (length task.actions) 16_777_216 plan root → MayBegin task root
  root_may root well = record {
    formed = well.formed;
    actions = well.in_range;
    shallow = well.shallow;
    short = omega (arith, steps_listed root (length task.actions) 16_777_216 plan well);
    few = omega (arith, well.few);
    ids = well.ids;
  }

  pub may_by : (start : Option Node) → StartsBy (length task.actions) 16_777_216 plan start → MayBegin task (unwrap_or start (chain_of plan))
  may_by None by = chain_may
  may_by (Some root) by = root_may root by

  pub sound_without : IsValid task plan → (start : Option Node) → start ≡ None → IsSound task (unwrap_or start (chain_of plan))
  sound_without valid start none = subst (λ (z : Option Node). IsSound task (unwrap_or z (chain_of plan))) (sym none) (chain_sound valid)

-- a core may begin on the tree that a script starts from
pub may_begin : (script : Script) → IsRunnable script → MayBegin script.task (start_of script)
may_begin script runs = may_by script.task script.plan runs.bounded.in_range runs.bounded.few script.start runs.bounded.starts

apart : (f : Fault) (o : Option Fault) → o ≡ None → o ≡ Some f → ⊥
apart f o e h = cc

pub no_fault : (task : TaskView) (start : Node) → IsSound task start → (f : Fault) → first_fault task start ≡ Some f → ⊥
no_fault task start sound f told = apart f (first_fault task start) ((none_where_sound task start).1 sound) told

pub told_fault : (task : TaskView) (start : Node) (stop : ℕ) (e : BeginErr) (f : Fault) → e ≡ Unsound f → Begins task start stop (Err e) → first_fault task start ≡ Some f
told_fault task start stop e f is b = subst (λ z. Begins task start stop (Err z)) is b

-- a start tree of fewer nodes than a text's bytes has fewer than a longer one's
pub starts_longer : (actions bytes more : ℕ) (plan : List ℕ) (start : Option Node) → bytes ≤ more → StartsBy actions bytes plan start → StartsBy actions more plan start
starts_longer actions bytes more plan None le by = tt
starts_longer actions bytes more plan (Some root) le by = record {
  formed = by.formed;
  in_range = by.in_range;
  shallow = by.shallow;
  few = omega (arith, by.few);
  ids = by.ids;
  lists = by.lists;
}
