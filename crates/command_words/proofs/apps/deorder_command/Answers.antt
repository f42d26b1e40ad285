use Rattle.std.proofs.lemmas.Result.{IfOk-weaker}
use Rattle.command_words.proofs.apps.deorder_command.Goals as goal

pub returns : goal.returns
returns c = IfOk-weaker c.with_number.result _ _ (λ new h. h _ c.in_ok-texts.ensures) c.with_number.ensures
