use Rattle.bd_relevant.proofs.ValueLemmas.{keeps_the_rest}
use Rattle.bd_relevant.proofs.laws.the_rest_stays.Goals as goal

pub returns : goal.returns
returns c = λ task relevant are. keeps_the_rest task relevant are
