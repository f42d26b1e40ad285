use Rattle.plan_loosen.proofs.FlatLemmas.{deordered_may}
use Rattle.plan_improve.proofs.OpenLemmas.{opened_told}
use Rattle.plan_improve.proofs.opening.opened.Goals as goal

pub begun-requires-clause-may : goal.begun-requires-clause-may
begun-requires-clause-may c = deordered_may c.args.task c.args.list.now c.requires.in_range c.requires.short c.in_ok-start.start c.in_ok-start.ensures

pub returns : goal.returns
returns c = opened_told c.args.task c.args.list.now c.args.stop c.in_ok-start.start c.begun.result c.in_ok-start.ensures c.begun.ensures
