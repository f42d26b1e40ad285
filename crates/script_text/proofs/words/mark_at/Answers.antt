use Rattle.std.proofs.Common.{◌∙◌, not, sym, arith}
use Rattle.std.proofs.lemmas.List.Sums.{prefix_len-le-length}
use Rattle.script_text.specs.Nodes.{is_mark}
use Rattle.script_text.proofs.LineLemmas.{position_found, position_missed}
use Rattle.script_text.proofs.words.mark_at.Goals as goal

pub returns-in-None-clause-mark : goal.returns-in-None-clause-mark
returns-in-None-clause-mark c = omega (arith, position_missed is_mark c.args.word.now (sym c.first_mark.ensures ∙ c.in-None.is), prefix_len-le-length (λ b. not (is_mark b)) c.args.word.now)

pub returns-in-Some-clause-mark : goal.returns-in-Some-clause-mark
returns-in-Some-clause-mark c = sym (position_found is_mark c.args.word.now c.in-Some.i (sym c.first_mark.ensures ∙ c.in-Some.is)).0
