use Rattle.std.proofs.Common.{ℕ, List, not, ap, ◌∙◌, sym, Bool}
use Rattle.pddl_form.specs.Names.{is_declared}
use Rattle.pddl_problem.proofs.KeyLemmas.{declared-by}
use Rattle.pddl_problem.proofs.keys.Keys.put.Goals as goal

pub returns-clause-told : goal.returns-clause-told
returns-clause-told c = c.in_ok-added.ensures.added ∙ ap (λ (b : Bool). not b) (sym (declared-by (λ k. k.items) c.args.key.items _) ∙ ap (λ (ns : List (List ℕ)). is_declared c.args.key.items ns) c.self.view_is)
