-- A task that was cut down to its relevant facts.
use Rattle.bd_task.specs.TaskView.{TaskView}
use Rattle.bd_cut.specs.Cut.{AreRelevant, IsCut}
use Rattle.bd_relevant.specs.declared.cutting.CutTask.{CutTask}

-- the facts are all that matter of the task, and the cut task is what is left of it
pub record IsCutDown (task : TaskView) (c : CutTask) : Type 0 where
  pub relevant : AreRelevant task c.relevant
  pub cut : IsCut task c.task c.relevant c.numbers
