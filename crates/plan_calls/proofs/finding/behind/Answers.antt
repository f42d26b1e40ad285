use Rattle.plan_calls.proofs.FindLemmas.{behind_match}
use Rattle.plan_calls.proofs.finding.behind.Goals as goal

pub returns : goal.returns
returns c = behind_match c.args.text.now c.args.front.now c.strip_prefix.result c.strip_prefix.ensures.cases
