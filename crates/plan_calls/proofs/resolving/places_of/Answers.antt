use Rattle.std.proofs.Common.{ℕ, List, Some, None, cond, ap, ◌∙◌}
use Rattle.bd_ground.specs.Atoms.{is_among, number_of}
use Rattle.plan_calls.specs.Places.{noted}
use Rattle.plan_calls.proofs.NotedLemmas.{noted-next}
use Rattle.plan_calls.proofs.resolving.places_of.Goals as goal

pub loop-a-preserved : goal.loop-a-preserved
loop-a-preserved c =
    let texts = c.args.texts.now in
    noted-next texts c.args.task.now.actions c.loop-a.places.items c.note_named.new.places.items c.loop-a.a c.action.result.now c.action.ensures.action
    (c.note_named.ensures ∙ ap (λ (z : List ℕ). noted c.loop-a.places.items (cond (is_among z texts) (Some (number_of texts z)) None) c.loop-a.a) c.as_slice.ensures) c.loop-a.invariant
