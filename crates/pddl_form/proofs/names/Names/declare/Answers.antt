use Rattle.std.proofs.Common.{ℕ, List, not, ap, ◌∙◌, sym, Bool}
use Rattle.pddl_form.specs.Names.{is_declared}
use Rattle.pddl_form.proofs.NameLemmas.{declared-map}
use Rattle.pddl_form.proofs.names.Names.declare.Goals as goal

pub returns-clause-told : goal.returns-clause-told
returns-clause-told c = c.in_ok-added.ensures.added ∙ ap (λ (b : Bool). not b) (sym (declared-map c.args.name.now _) ∙ ap (λ (ns : List (List ℕ)). is_declared c.args.name.now ns) c.self.view_is)
