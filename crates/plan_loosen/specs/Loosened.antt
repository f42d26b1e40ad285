-- The core of a list that was deordered and then tightened.
use Rattle.std.specs.List.{list_all}
use Rattle.std.specs.Prelude.{◌≡◌, ℕ, true, List}
use Rattle.bd_task.specs.TaskView.{TaskView}
use Rattle.bd_deorder.specs.Deordered.{IsDeordered}
use Rattle.bd_tight.specs.Candidates.{IsTight}
use Rattle.plan_core.specs.Core.{CoreView, is_tightening}
use Rattle.plan_core.specs.Law.{IsLawful, OpensOn}
use Rattle.plan_core.specs.declared.offer.Offer.{Offer}

-- each entry of a history is a tightening
abbrev pub AreTightenings : List Offer → Type 0
AreTightenings history = list_all is_tightening history ≡ true

-- it opened on a deordered tree of the list, its history has tightenings alone, and its tree is tight at the span; all holds
-- of it that holds of every core
pub record IsLoosened (task : TaskView) (list : List ℕ) (span : ℕ) (core : CoreView) : Type 0 where
  pub opens : OpensOn task core.start 1_000_000 core
  pub starts : IsDeordered task list core.start
  pub tightenings : AreTightenings core.history
  pub tight : IsTight task core.tree span
  pub lawful : IsLawful core
