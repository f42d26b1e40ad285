use Rattle.std.proofs.Common.{◌≡◌, drop}
use Rattle.std.specs.Str.{bytes_eq}
use Rattle.plan_calls.specs.Finding.{call_text, words_text}
use Rattle.plan_calls.proofs.finding.is_call.Given as goal

abbrev pub invariant-loop-word : goal.invariant-loop-word
invariant-loop-word l = bytes_eq l.rest (words_text (drop l.word-index l.word-items)) ≡ bytes_eq l.text (call_text l.call)
