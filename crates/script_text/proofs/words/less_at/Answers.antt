use Rattle.std.proofs.Common.{◌∙◌, not, sym, arith, ◌==◌}
use Rattle.std.proofs.lemmas.List.Sums.{prefix_len-le-length}
use Rattle.script_text.proofs.LineLemmas.{position_found, position_missed}
use Rattle.script_text.proofs.words.less_at.Goals as goal

pub returns-in-None-clause-less : goal.returns-in-None-clause-less
returns-in-None-clause-less c = omega (arith, position_missed (λ b. b == 60) c.args.word.now (sym c.first_less.ensures ∙ c.in-None.is), prefix_len-le-length (λ b. not (b == 60)) c.args.word.now)

pub returns-in-Some-clause-less : goal.returns-in-Some-clause-less
returns-in-Some-clause-less c = sym (position_found (λ b. b == 60) c.args.word.now c.in-Some.i (sym c.first_less.ensures ∙ c.in-Some.is)).0
