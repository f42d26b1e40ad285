use Rattle.bd_kept.proofs.SingleLaw.{two_candidate, two_qualify}
use Rattle.bd_kept.proofs.law.gains_qualify.Goals as goal

pub returns : goal.returns
returns c = λ task root span well shallow le id kids order is i j g. (two_candidate task root span well shallow le id kids order is i j g, two_qualify task root span well shallow le id kids order is i j g)
