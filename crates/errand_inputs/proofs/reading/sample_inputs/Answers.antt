use Rattle.std.proofs.Common.{arith}
use Rattle.errand_inputs.proofs.OutcomeLemmas.{leads_quietly}
use Rattle.errand_inputs.proofs.reading.sample_inputs.Goals as goal

pub returns-clause-leads : goal.returns-clause-leads
returns-clause-leads c =
    leads_quietly c.args.sample c.inputs.new.shelf.longs c.inputs.result
    (c.inputs.ensures.leads (record { faults = 0; faults_after = 0; longs = 0; longs_after = c.inputs.new.shelf.longs }) (record { faults = omega arith; faults_after = omega arith; longs = omega arith; longs_after = omega arith }))
