use Rattle.plan_loosen.proofs.OpenLemmas.{loosened_is}
use Rattle.plan_loosen.proofs.loosening.loosened.Goals as goal

pub returns : goal.returns
returns c = loosened_is c.args.task c.args.list.now c.args.span c.in_ok-core.core c.tighten.new.core c.in_ok-core.ensures c.tighten.ensures.adds c.tree.ensures.lawful c.in_ok-tighten.ensures.tight
