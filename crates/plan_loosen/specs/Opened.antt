-- Inner: serves this crate's own proofs alone.
-- A core as it opens.
use Rattle.std.specs.Prelude.{◌≡◌, ℕ, ◌≤◌, List, []}
use Rattle.bd_task.specs.TaskView.{TaskView}
use Rattle.bd_tree.specs.Tree.{pairs_of}
use Rattle.bd_deorder.specs.Deordered.{IsDeordered}
use Rattle.plan_core.specs.Core.{CoreView}
use Rattle.plan_core.specs.Law.{OpensOn}

-- it opens on a deordered tree of the list, which has few ordered step pairs, and took nothing yet
pub record IsOpened (task : TaskView) (list : List ℕ) (core : CoreView) : Type 0 where
  pub opens : OpensOn task core.start 1_000_000 core
  pub starts : IsDeordered task list core.start
  pub few : pairs_of core.start ≤ 4_000_000
  pub nothing : core.history ≡ []
