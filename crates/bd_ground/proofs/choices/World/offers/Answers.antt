use Rattle.std.proofs.Common.{ℕ, List, Bor, map, refl, sym, subst, ◌∙◌}
use Rattle.bd_ground.specs.Collect.{IsEnough}
use Rattle.bd_ground.proofs.AllowedLemmas.{enough_by_rows, same_allowed}
use Rattle.bd_ground.proofs.choices.World.offers.Goals as goal

pub returns-in_ok-xs-in-Some : goal.returns-in_ok-xs-in-Some
returns-in_ok-xs-in-Some c =
    let w = c.args.self.now in
    let d = w.domain.now in
    let p = w.problem.now in
    let s = c.args.schema.now in
    let a = c.in-Some.n.atom.now in
    let rows = map (λ (g : Bor (List ℕ)). g.now) c.in-Some.n.rows.now in
    let narrow = c.in-Some.ensures in
    subst (λ (z : List ℕ). IsEnough d p s c.args.kinds.now c.args.chosen.now z)
    (sym (c.in_ok-xs-in-Some.ensures ∙ same_allowed _ _ c.args.chosen.now a rows rows c.count-all.ensures refl))
    (enough_by_rows d p s c.args.kinds.now c.args.chosen.now a narrow.place rows c.requires.schema c.requires.sized (λ g e f. narrow.covers g (w.states g ∙ e) f) narrow.at narrow.static narrow.param)
