use Rattle.std.proofs.Common.{◌+◌, ◌*◌, ◌-◌, get_or, drop, arith, rules}
use Rattle.std.proofs.lemmas.Grind.{common_steps}
use Rattle.script_text.specs.Lines.{number_of}
use Rattle.script_text.proofs.NumberLemmas.{over}
use Rattle.script_text.proofs.words.value_of.Goals as goal

pub returns-then-number-most-clause-value : goal.returns-then-number-most-clause-value
returns-then-number-most-clause-value c = over c.args.most (10 * c.loop-b.number + (get_or c.args.word.now c.loop-b.b-index 0 - 48)) (drop (c.loop-b.b-index + 1) c.args.word.now) (number_of c.args.word.now) (grind (arith, common_steps, c.loop-b.invariant.same)) (search rules)
