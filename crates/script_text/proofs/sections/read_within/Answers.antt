use Rattle.script_text.specs.Left.{script_of}
use Rattle.script_text.proofs.AnswerLemmas.{parts_fit}
use Rattle.script_text.proofs.sections.read_within.Goals as goal

pub script_from-requires : goal.script_from-requires
script_from-requires c = parts_fit c.args.text.now (script_of c.in_ok-parts.parts) c.first_over.result c.in_ok-parts.ensures c.first_over.ensures c.in-None.is
