use Rattle.std.proofs.Common.{◌∷◌, [], cond, not}
use Rattle.bd_ground.specs.Atoms.{filled, is_among}
use Rattle.bd_ground.specs.Sight.{instance_of}
use Rattle.bd_ground.specs.Task.{added}
use Rattle.bd_ground.proofs.NotingLemmas.{Noted}
use Rattle.bd_ground.proofs.facts.FactTable.note_all_deleted.Given as goal

abbrev pub invariant-loop-a : goal.invariant-loop-a
invariant-loop-a l = Noted (λ a. cond (not (is_among (filled l.i.args a) (added (instance_of l.i)))) (filled l.i.args a ∷ []) []) l.initial.self l.self l.ids.items l.a-items l.a-index
