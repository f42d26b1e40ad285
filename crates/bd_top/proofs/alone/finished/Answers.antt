use Rattle.run_texts.specs.Texts.{summary_of}
use Rattle.bd_top.proofs.EndLemmas.{finish_stop}
use Rattle.bd_top.proofs.alone.finished.Goals as goal

pub returns-in-Err-put_text-clause-finishes : goal.returns-in-Err-put_text-clause-finishes
returns-in-Err-put_text-clause-finishes g c =
    finish_stop c.args.made _ c.args.run _ c.in-Err-put_text.stop _ _ c.in-Ok.is c.stopped-in-Err-put_text.ensures.status c.stopped-in-Err-put_text.ensures.run
    (c.in-Err-put_text.ensures.put (summary_of c.args.run) c.summary_text.ensures)
