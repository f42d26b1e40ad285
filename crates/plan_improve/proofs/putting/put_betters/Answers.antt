use Rattle.std.proofs.Common.{Err}
use Rattle.plan_improve.proofs.TellLemmas.{tells_then}
use Rattle.plan_improve.proofs.putting.put_betters.Goals as goal

pub returns-in-Err-clause-told : goal.returns-in-Err-clause-told
returns-in-Err-clause-told g c = tells_then _ _ _ _ _ _ c.loop-alloc.invariant.later _ _ _ (Err c.in-Err.why) c.loop-alloc.invariant.told c.in-Err.ensures.told
