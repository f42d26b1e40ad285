-- A core that opens on the deordered tree of a list, and what it grows to.
use Rattle.std.proofs.Common.{◌≡◌, ℕ, List, Result, Ok, Err, IfOk, refl, sym, ap, ◌∙◌, subst}
use Rattle.bd_task.specs.TaskView.{TaskView}
use Rattle.bd_tree.specs.declared.node.Node.{Node}
use Rattle.bd_deorder.specs.Deordered.{IsDeordered}
use Rattle.plan_core.specs.Core.{CoreView, opening}
use Rattle.plan_core.specs.Law.{IsLawful, MayBegin}
use Rattle.bd_links.specs.Sound.{IsSound}
use Rattle.plan_rebuild.specs.Rebuilds.{GrowsRightly}
use Rattle.plan_improve.specs.Improved.{IsImproved}
use Rattle.plan_improve.specs.Inner.{IsOpened}

module _ (task : TaskView) (list : List ℕ) (stop : ℕ) where
  pub opened_on : (root : Node) (core : CoreView) → IsDeordered task list root → core ≡ opening task root stop → IsOpened task list stop core
  opened_on root core is same = subst (IsOpened task list stop) (sym same) record { starts = is; is = refl }

  pub opened_told : {E : Type 0} (root : Node) (r : Result CoreView E) → IsDeordered task list root → IfOk r (λ core. core ≡ opening task root stop) → IfOk r (λ core. IsOpened task list stop core)
  opened_told root (Ok core) is same = opened_on root core is same
  opened_told root (Err e) is same = tt

  pub improved_is : (core after : CoreView) → IsOpened task list stop core → GrowsRightly core after → IsLawful after → IsImproved task list stop after
  improved_is core after opened grows lawful = record {
    starts = subst (IsDeordered task list) (sym grows.grows.start) opened.starts;
    opens = (grows.grows.task ∙ ap (λ (c : CoreView). c.task) opened.is, refl, grows.grows.stop ∙ ap (λ (c : CoreView). c.stop) opened.is);
    grows = subst (λ (c : CoreView). GrowsRightly c after) (opened.is ∙ ap (λ s. opening task s stop) (sym grows.grows.start)) grows;
    lawful = lawful;
  }

-- the same of copies
pub may_same : (t u : TaskView) (n m : Node) → t ≡ u → n ≡ m → MayBegin u m → MayBegin t n
may_same t u n m e f may = subst (λ z. MayBegin z n) (sym e) (subst (MayBegin u) (sym f) may)

pub sound_same : (t u : TaskView) (n m : Node) → t ≡ u → n ≡ m → IsSound u m → IsSound t n
sound_same t u n m e f sound = subst (λ z. IsSound z n) (sym e) (subst (IsSound u) (sym f) sound)

pub begun_same : {E : Type 0} (t u : TaskView) (n m : Node) (stop : ℕ) (r : Result CoreView E) → t ≡ u → n ≡ m → IfOk r (λ core. core ≡ opening t n stop) → IfOk r (λ core. core ≡ opening u m stop)
begun_same t u n m stop (Ok core) e f same = same ∙ ap (λ z. opening z n stop) e ∙ ap (λ z. opening u z stop) f
begun_same t u n m stop (Err x) e f same = tt
