use Rattle.bd_kept.proofs.SingleLaw.{no_single}
use Rattle.bd_kept.proofs.law.tight_has_no_gain.Goals as goal

pub returns : goal.returns
returns c = no_single
