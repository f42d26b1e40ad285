use Rattle.plan_calls.proofs.AgreeLemmas.{agrees}
use Rattle.plan_calls.proofs.laws.calls_agree.Goals as goal

pub returns : goal.returns
returns c d p call named has = agrees d p call named has
