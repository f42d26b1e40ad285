use Rattle.std.proofs.Common.{◌∷◌, []}
use Rattle.bd_ground.specs.Atoms.{filled}
use Rattle.bd_ground.proofs.NotingLemmas.{Noted}
use Rattle.bd_ground.proofs.facts.FactTable.note_all_added.Given as goal

abbrev pub invariant-loop-a : goal.invariant-loop-a
invariant-loop-a l = Noted (λ a. filled l.i.args a ∷ []) l.initial.self l.self l.ids.items l.a-items l.a-index
