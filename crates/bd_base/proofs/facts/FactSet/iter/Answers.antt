use Rattle.std.proofs.Common.{subst}
use Rattle.bd_base.specs.Facts.{IsRising}
use Rattle.bd_base.proofs.StoredLemmas.{rising_stored}
use Rattle.bd_base.proofs.facts.FactSet.iter.Goals as goal

pub returns-clause-rising : goal.returns-clause-rising
returns-clause-rising c = subst IsRising c.self.view_is (rising_stored c.self.inside.form c.self.invariant)
