use Rattle.bd_renamed.proofs.ShiftLemmas.{tightens_alike}
use Rattle.bd_renamed.proofs.law.free_ids_dont_tell.Goals as goal

pub returns : goal.returns
returns c = λ task root block left right next later taken le. tightens_alike task root block left right next later taken le
