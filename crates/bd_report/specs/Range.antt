-- Inner: serves this crate's own proofs alone.
-- Effects and reasons of a task's nodes, whose facts are the task's.
use Rattle.std.specs.Prelude.{ℕ, ◌<◌, List}
use Rattle.std.specs.List.{AllByRecursion}
use Rattle.bd_task.specs.TaskView.{AreBelow}
use Rattle.bd_links.specs.Child.{Child}
use Rattle.bd_reason.specs.declared.reason.Reason.{Reason}
use Rattle.bd_reason.specs.Reasons.{fact_of}

-- the facts of what a node needs, gives and deletes are below n
pub record IsChildIn (n : ℕ) (c : Child) : Type 0 where
  pub need : AreBelow n c.effects.need
  pub add : AreBelow n c.effects.add
  pub del : AreBelow n c.effects.del

abbrev pub AreChildrenIn : ℕ → List Child → Type 0
AreChildrenIn n = AllByRecursion (IsChildIn n)

-- the facts of the reasons are below n
abbrev pub AreReasonsIn : ℕ → List Reason → Type 0
AreReasonsIn n = AllByRecursion (λ r. fact_of r < n)
