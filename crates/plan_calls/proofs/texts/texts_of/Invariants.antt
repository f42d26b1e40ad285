use Rattle.std.proofs.Common.{◌≡◌, ◌≤◌, [], drop, length, map}
use Rattle.bd_ground.specs.Atoms.{mentioned_after}
use Rattle.plan_calls.specs.Finding.{call_text}
use Rattle.plan_calls.proofs.texts.texts_of.Given as goal

abbrev pub invariant-loop-call : goal.invariant-loop-call
invariant-loop-call l = (mentioned_after l.texts (map (λ c. call_text c) (drop l.call-index l.calls)) ≡ mentioned_after [] (map (λ c. call_text c) l.calls)) × (length l.texts ≤ l.call-index)
