use Rattle.std.proofs.Common.{ℕ, Option, ap, sym, ◌∙◌}
use Rattle.plan_calls.specs.Places.{noted}
use Rattle.plan_calls.proofs.NotedLemmas.{number_in}
use Rattle.plan_calls.proofs.resolving.note_named.Goals as goal

pub note-requires : goal.note-requires
note-requires c = number_in c.args.texts.now c.args.places.now.items c.args.name.now c.in-Some.k c.requires (sym c.in-Some.is ∙ c.number.ensures)

pub returns-in-None : goal.returns-in-None
returns-in-None c = ap (λ (r : Option ℕ). noted c.args.places.now.items r c.args.a) (sym c.in-None.is ∙ c.number.ensures)

pub returns-in-Some : goal.returns-in-Some
returns-in-Some c = c.note.ensures ∙ ap (λ (r : Option ℕ). noted c.args.places.now.items r c.args.a) (sym c.in-Some.is ∙ c.number.ensures)
