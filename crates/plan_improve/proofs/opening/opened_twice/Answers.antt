use Rattle.std.proofs.Common.{sym, ◌∙◌}
use Rattle.plan_loosen.proofs.FlatLemmas.{deordered_may}
use Rattle.plan_improve.proofs.OpenLemmas.{opened_on}
use Rattle.plan_improve.proofs.opening.opened_twice.Goals as goal

pub begun_on-requires-clause-may : goal.begun_on-requires-clause-may
begun_on-requires-clause-may c = deordered_may c.args.task c.args.list.now c.requires.in_range c.requires.short c.in_ok-start.start c.in_ok-start.ensures

pub begun-requires-clause-may : goal.begun-requires-clause-may
begun-requires-clause-may c = deordered_may c.args.task c.args.list.now c.requires.in_range c.requires.short c.in_ok-start.start c.in_ok-start.ensures

pub returns-clause-opened : goal.returns-clause-opened
returns-clause-opened c = opened_on c.args.task c.args.list.now c.args.stop c.in_ok-start.start c.in_ok-core.core c.in_ok-start.ensures c.in_ok-core.ensures

pub returns-clause-same : goal.returns-clause-same
returns-clause-same c = c.in_ok-follower.ensures ∙ sym c.in_ok-core.ensures
