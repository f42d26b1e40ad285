use Rattle.bd_workers.proofs.DoneLemmas.{done_law}
use Rattle.bd_workers.proofs.law.quiet_is_done.Goals as goal

pub returns : goal.returns
returns c = λ core windows nodes pieces is free stand quiet. done_law core windows nodes pieces is free stand quiet
