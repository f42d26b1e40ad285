use Rattle.std.proofs.Common.{subst}
use Rattle.plan_core.specs.Law.{IsCore}
use Rattle.plan_core.proofs.LawLemmas.{lawful_core}
use Rattle.plan_core.proofs.judge.Core.tree.Goals as goal

pub returns-clause-lawful : goal.returns-clause-lawful
returns-clause-lawful c = lawful_core _ (subst IsCore c.self.view_is c.self.invariant.kept)
