use Rattle.std.proofs.Common.{subst}
use Rattle.plan_core.specs.Law.{IsCore}
use Rattle.plan_core.proofs.judge.Core.keeps.Goals as goal

pub returns : goal.returns
returns c = subst IsCore c.self.view_is c.self.invariant.kept
