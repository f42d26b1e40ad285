use Rattle.command_words.specs.Asked.{names_of}
use Rattle.bd_top.proofs.BenchLemmas.{other_errands, ready_errands}
use Rattle.bd_top.proofs.texts.prepare_errands.Goals as goal

pub returns-in-Ready : goal.returns-in-Ready
returns-in-Ready c = ready_errands c.args.size c.in-Ready.task c.in-Ready.plan c.in-Ready.cost c.in-Ready.ensures.leads

pub returns-in_default : goal.returns-in_default
returns-in_default c = other_errands c.args.size _ c.generated_inputs.result c.told.result c.in_default.not-Ready c.generated_inputs.ensures.leads c.told.ensures
