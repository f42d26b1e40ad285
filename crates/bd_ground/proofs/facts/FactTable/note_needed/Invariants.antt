use Rattle.std.proofs.Common.{◌∷◌, [], cond, not}
use Rattle.bd_ground.specs.Atoms.{filled}
use Rattle.bd_ground.specs.Instances.{is_static}
use Rattle.bd_ground.proofs.NotingLemmas.{Noted}
use Rattle.bd_ground.proofs.facts.FactTable.note_needed.Given as goal

abbrev pub invariant-loop-a : goal.invariant-loop-a
invariant-loop-a l = Noted (λ a. cond (not (is_static l.domain.schemas a.head)) (filled l.i.args a ∷ []) []) l.initial.self l.self l.ids.items l.a-items l.a-index
