use Rattle.std.proofs.Common.{subst}
use Rattle.bd_base.specs.Facts.{IsRising}
use Rattle.bd_base.proofs.SetLemmas.{rising-row}
use Rattle.bd_base.proofs.owned_row.OwnedRow.row.Goals as goal

pub returns-clause-rising : goal.returns-clause-rising
returns-clause-rising c = subst IsRising c.self.view_is (rising-row c.self.inside.words.items 0)
