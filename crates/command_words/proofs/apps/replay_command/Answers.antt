use Rattle.std.proofs.lemmas.Result.{IfOk-weaker}
use Rattle.command_words.proofs.apps.replay_command.Goals as goal

pub returns : goal.returns
returns c = IfOk-weaker c.with_word.result _ _ (λ new h. h _ c.bare.ensures) c.with_word.ensures
