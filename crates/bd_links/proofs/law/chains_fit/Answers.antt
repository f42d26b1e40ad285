use Rattle.bd_links.proofs.InRange.{chain_below}
use Rattle.bd_links.proofs.law.chains_fit.Goals as goal

pub returns : goal.returns
returns c = chain_below
