use Rattle.std.proofs.Common.{sym, ◌∙◌}
use Rattle.bd_ground.proofs.IndexLemmas.{seen, covers_same, covers_place}
use Rattle.bd_ground.proofs.choices.World.rows_at.Goals as goal

pub returns-in-Some : goal.returns-in-Some
returns-in-Some c =
    let w = c.args.self.now in
    covers_same w.stated.now c.args.chosen.now c.args.a.now _ _ c.rows.ensures
    (covers_place w.index.keys (seen w.index.rows.items) w.stated.now c.args.chosen.now c.args.a.now c.args.k c.args.t c.in-Some.o w.finds c.requires (sym c.settled.ensures ∙ c.in-Some.is))
