use Rattle.bd_renamed.proofs.AlikeLemmas.{alike}
use Rattle.bd_renamed.proofs.law.ids_dont_tell.Goals as goal

pub returns : goal.returns
returns c = λ task root f. alike f task root
