use Rattle.std.proofs.lemmas.Result.{IfOk-weaker}
use Rattle.command_words.proofs.apps.improve_command.Goals as goal

pub returns : goal.returns
returns c =
    IfOk-weaker c.with_number-5.result _ _
    (λ new h. h _ (c.in_ok-span.ensures _ (c.in_ok-width.ensures _ (c.in_ok-nodes.ensures _ (c.in_ok-workers.ensures _ c.in_ok-texts.ensures)))))
    c.with_number-5.ensures
