use Rattle.std.proofs.Common.{rules}
use Rattle.std.proofs.lemmas.Result.{IfOk-weaker}
use Rattle.command_words.proofs.AppLemmas.{added_app}
use Rattle.command_words.proofs.apps.with_number.Goals as goal

pub returns : goal.returns
returns c = IfOk-weaker c.arg.result _ _ (λ new h. added_app c.args.command new _ _ h (search rules) (search rules) (search rules)) c.arg.ensures
