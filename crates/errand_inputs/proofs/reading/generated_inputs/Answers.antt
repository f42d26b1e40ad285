use Rattle.errand_inputs.proofs.OutcomeLemmas.{leads_as_stated}
use Rattle.errand_inputs.proofs.reading.generated_inputs.Goals as goal

pub returns-in-Ok-clause-leads : goal.returns-in-Ok-clause-leads
returns-in-Ok-clause-leads c = leads_as_stated c.args.n c.requires.1 c.in-Ok.sample c.in-Ok.ensures.domain c.in-Ok.ensures.problem c.in-Ok.ensures.plan _ c.sample_inputs.ensures.leads
