use Rattle.std.proofs.Common.{◌≡◌, ◌++◌, take}
use Rattle.plan_calls.specs.Finding.{words_text}
use Rattle.plan_calls.proofs.texts.text_of.Given as goal

abbrev pub invariant-loop-word : goal.invariant-loop-word
invariant-loop-word l = l.text.items ≡ l.call.name ++ words_text (take l.word-index l.word-items)
