use Rattle.bd_links.proofs.There.{runs_always}
use Rattle.bd_links.proofs.law.linearisations_run.Goals as goal

pub returns : goal.returns
returns c = λ task root below sound. runs_always task root below sound
