use Rattle.bd_relevant.proofs.ValueLemmas.{keeps_values}
use Rattle.bd_relevant.proofs.laws.cutting_keeps_values.Goals as goal

pub returns : goal.returns
returns c = λ task cut relevant numbers s is rest. keeps_values task cut relevant numbers s is rest
