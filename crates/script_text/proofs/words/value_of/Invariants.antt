use Rattle.std.proofs.Common.{◌≡◌, ◌≤◌, drop}
use Rattle.script_text.specs.Lines.{digits_from, number_of}
use Rattle.script_text.proofs.words.value_of.Given as goal

abbrev pub invariant-loop-b : goal.invariant-loop-b
invariant-loop-b l = record { small : l.number ≤ l.most; same : digits_from l.number (drop l.b-index l.word) ≡ number_of l.word }
