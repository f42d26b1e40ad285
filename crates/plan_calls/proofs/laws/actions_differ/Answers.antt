use Rattle.plan_calls.proofs.DifferLemmas.{differ}
use Rattle.plan_calls.proofs.laws.actions_differ.Goals as goal

pub returns : goal.returns
returns c d p named = differ d p named
