use Rattle.std.proofs.Common.{◌≡◌, ℕ, List, Vec, Global, Bor, Option, Some, length, map, slice_get, ap, sym, ◌∙◌}
use Rattle.std.specs.Option.{option_map}
use Rattle.bd_ground.proofs.FittingLemmas.{no_list, enough_by_list}
use Rattle.bd_ground.proofs.choices.World.objects_for.Goals as goal

pub returns-in-None-list_at : goal.returns-in-None-list_at
returns-in-None-list_at c =
    let w = c.args.self.now in
    let kind = c.in-Some.kind in
    let at : slice_get c.args.schema.now.params (length c.args.chosen.now) ≡ Some kind = ap (λ (z : List ℕ). slice_get z (length c.args.chosen.now)) (sym c.as_slice.ensures) ∙ sym c.kind_at.ensures ∙ c.in-Some.is in
    absurd (no_list w.domain.now w.problem.now c.args.schema.now c.args.kinds.now c.args.chosen.now c.requires.schema (map (λ (xs : Vec ℕ Global). xs.items) w.fitting.items) w.fitted kind at
    (ap (λ (z : List (Vec ℕ Global)). slice_get (map (λ (xs : Vec ℕ Global). xs.items) z) kind) (sym c.deref.ensures.value) ∙ sym c.list_at.ensures ∙ ap (λ (r : Option (Bor (List ℕ))). option_map (λ (xs : Bor (List ℕ)). xs.now) r) c.in-None-list_at.is))

pub returns-in-Some-list_at : goal.returns-in-Some-list_at
returns-in-Some-list_at c =
    let w = c.args.self.now in
    let kind = c.in-Some.kind in
    let at : slice_get c.args.schema.now.params (length c.args.chosen.now) ≡ Some kind = ap (λ (z : List ℕ). slice_get z (length c.args.chosen.now)) (sym c.as_slice.ensures) ∙ sym c.kind_at.ensures ∙ c.in-Some.is in
    enough_by_list w.domain.now w.problem.now c.args.schema.now c.args.kinds.now c.args.chosen.now c.requires.schema (map (λ (xs : Vec ℕ Global). xs.items) w.fitting.items) w.fitted kind c.in-Some-list_at.objects.now at
    (ap (λ (z : List (Vec ℕ Global)). slice_get (map (λ (xs : Vec ℕ Global). xs.items) z) kind) (sym c.deref.ensures.value) ∙ sym c.list_at.ensures ∙ ap (λ (r : Option (Bor (List ℕ))). option_map (λ (xs : Bor (List ℕ)). xs.now) r) c.in-Some-list_at.is)
