use Rattle.bd_links.proofs.ChainLaw.{chain_law}
use Rattle.bd_links.proofs.law.chains_run.Goals as goal

pub returns : goal.returns
returns c = λ task list there. chain_law task list there
