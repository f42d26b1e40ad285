use Rattle.std.proofs.Common.{ℕ, List, ap, ◌∙◌, sym}
use Rattle.pddl_form.specs.Names.{place_of}
use Rattle.pddl_form.proofs.NameLemmas.{place-map}
use Rattle.pddl_form.proofs.names.Names.place.Goals as goal

pub returns-in-None : goal.returns-in-None
returns-in-None c = sym c.in-None.is ∙ c.get_index_of.ensures.index ∙ sym (place-map c.args.name.now _) ∙ ap (λ (ns : List (List ℕ)). place_of c.args.name.now ns) c.self.view_is

pub returns-in-Some : goal.returns-in-Some
returns-in-Some c = sym c.in-Some.is ∙ c.get_index_of.ensures.index ∙ sym (place-map c.args.name.now _) ∙ ap (λ (ns : List (List ℕ)). place_of c.args.name.now ns) c.self.view_is
