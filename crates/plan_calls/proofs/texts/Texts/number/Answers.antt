use Rattle.std.proofs.Common.{ℕ, List, ap, ◌∙◌, sym, cond, Some, None}
use Rattle.bd_ground.specs.Atoms.{is_among, number_of}
use Rattle.bd_ground.proofs.TableLemmas.{position-map}
use Rattle.plan_calls.proofs.texts.Texts.number.Goals as goal

pub returns-in-None : goal.returns-in-None
returns-in-None c =
    sym c.in-None.is ∙ c.get_index_of.ensures.index ∙ position-map (λ k. k.items) c.args.text.now _ ∙ ap (λ (gs : List (List ℕ)). cond (is_among c.args.text.now gs) (Some (number_of gs c.args.text.now)) None) c.self.view_is

pub returns-in-Some : goal.returns-in-Some
returns-in-Some c =
    sym c.in-Some.is ∙ c.get_index_of.ensures.index ∙ position-map (λ k. k.items) c.args.text.now _ ∙ ap (λ (gs : List (List ℕ)). cond (is_among c.args.text.now gs) (Some (number_of gs c.args.text.now)) None) c.self.view_is
