use Rattle.std.proofs.lemmas.Result.{IfOk-weaker}
use Rattle.command_words.proofs.apps.with_texts.Goals as goal

pub returns : goal.returns
returns c = IfOk-weaker c.with_word-3.result _ _ (λ new h. h _ (c.in_ok-problem.ensures _ (c.in_ok-domain.ensures _ c.bare.ensures))) c.with_word-3.ensures
