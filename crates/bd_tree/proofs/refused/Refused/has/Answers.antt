use Rattle.std.proofs.Common.{subst, sym, ◌∙◌}
use Rattle.bd_tree.specs.Deciding.{IsOneOf}
use Rattle.bd_tree.proofs.RefusedLemmas.{found_set}
use Rattle.bd_tree.proofs.refused.Refused.has.Goals as goal

pub returns : goal.returns
returns c = λ told. subst (λ z. IsOneOf z c.args.set.now) c.self.view_is (found_set c.args.set.now c.self.inside.sets.keys (sym c.contains.ensures ∙ told))
