use Rattle.std.proofs.Common.{◌≡◌, ◌⊎◌, ℕ, map, Vec, Global, subst}
use Rattle.bd_tree.specs.Deciding.{IsOneOf}
use Rattle.bd_tree.proofs.RefusedLemmas.{inserted_set}
use Rattle.bd_tree.proofs.refused.Refused.insert.Goals as goal

pub returns : goal.returns
returns c = λ other one. subst (λ z. (other ≡ c.args.set.items) ⊎ IsOneOf z other) c.self.view_is
    (inserted_set _ c.args.set other c.self.inside.sets.keys (subst (λ z. IsOneOf (map (λ (k : Vec ℕ Global). k.items) z) other) c.in_ok-insert.ensures.keys one))
