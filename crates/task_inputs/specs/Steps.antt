-- Inner: serves this crate's own proofs alone.
-- What grounding makes of a domain and a problem, and what an error leads to.
use Rattle.std.specs.Prelude.{Result, Ok, Err}
use Rattle.bd_base.specs.declared.text_err.Limit.TheVariants as limits
use Rattle.bd_base.specs.declared.text_err.TextErr.{TextErr}
use Rattle.bd_base.specs.declared.text_err.TextErr.TheVariants as errors
use Rattle.bd_task.specs.TaskView.{TaskView}
use Rattle.pddl_types.specs.declared.domains.Domain.{Domain}
use Rattle.pddl_types.specs.declared.problems.Problem.{Problem}
use Rattle.bd_ground.specs.Grounding.{IsGround, PassesActions, PassesFacts}
use Rattle.task_inputs.specs.declared.answers.Part.{Part}
use Rattle.task_inputs.specs.declared.answers.Inputs.{Inputs}
use Rattle.task_inputs.specs.declared.answers.Inputs.TheVariants as inputs

-- the ground task, or the first count that passes its limit: actions are judged before facts
abbrev pub GroundsTo : Domain → Problem → Result TaskView TextErr → Type 0
GroundsTo d p (Ok task) = IsGround d p task
GroundsTo d p (Err errors.NoMemory) = Unit {0}
GroundsTo d p (Err (errors.Over limits.Actions count)) = PassesActions d p count
GroundsTo d p (Err (errors.Over limits.Facts count)) = PassesFacts d p count
GroundsTo d p (Err other) = ⊥

-- what the error of a part leads to
abbrev pub refusal_of : Part → TextErr → Inputs
refusal_of part (errors.At place cause) = inputs.Refused part place cause
refusal_of part (errors.Over limit count) = inputs.Over limit count
refusal_of part errors.NoMemory = inputs.NoMemory
