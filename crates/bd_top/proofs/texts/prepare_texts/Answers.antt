use Rattle.std.proofs.Common.{arith}
use Rattle.bd_top.proofs.TextsLemmas.{prepares}
use Rattle.bd_top.proofs.texts.prepare_texts.Goals as goal

pub returns-clause-prepared : goal.returns-clause-prepared
returns-clause-prepared g c =
    prepares _ _ _ _ _ _ (c.inputs-result.ensures.leads _ (record { faults = omega arith; faults_after = omega arith; longs = omega arith; longs_after = omega arith })) c.told.ensures
