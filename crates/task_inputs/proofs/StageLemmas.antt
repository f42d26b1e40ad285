-- What follows the error of a reader.
use Rattle.std.proofs.Common.{◌≡◌, ℕ, Option, Result, Err, sym, subst}
use Rattle.bd_base.specs.declared.text_err.Limit.{Limit}
use Rattle.bd_base.specs.declared.text_err.TextErr.{TextErr}
use Rattle.pddl_form.specs.Fault.{Fault, Answers}
use Rattle.task_inputs.specs.declared.answers.Part.{Part}
use Rattle.task_inputs.specs.declared.answers.Inputs.{Inputs}
use Rattle.task_inputs.specs.Inputs.{read_step, FollowsBy, Unless}
use Rattle.task_inputs.specs.Steps.{refusal_of}
use Rattle.task_inputs.proofs.StepLemmas.{stops, err_step}

pub by_error : {A : Type 0} (part : Part) (over : A → Option (Limit × ℕ)) (read : Result A Fault) (next : A → Inputs → Type 0) (e : TextErr) (r : Inputs) → r ≡ refusal_of part e → Answers over (Err e) read → Unless r (FollowsBy (read_step part over read) next r)
by_error part over read next e r is h = subst (λ z. Unless z (FollowsBy (read_step part over read) next z)) (sym is) (stops (read_step part over read) next (refusal_of part e) (err_step part over read e h))
