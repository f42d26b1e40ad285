use Rattle.std.proofs.Common.{◌≡◌, Bool, List, ℕ, [], Result, Ok, Err, IfOk, ◌∙◌}
use Rattle.bd_tree.specs.WellFormed.{are_distinct}
use Rattle.plan_core.specs.New.{are_new}
use Rattle.plan_core.proofs.NewLemmas.{new_where_distinct}
use Rattle.plan_core.proofs.sides.are_distinct.Goals as goal

tells : {E : Type 0} (ids : List ℕ) (r : Result Bool E) → IfOk r (λ told. told ≡ are_new [] ids) → IfOk r (λ told. told ≡ are_distinct ids)
tells ids (Ok told) e = e ∙ new_where_distinct ids
tells ids (Err x) e = tt

pub returns : goal.returns
returns c = tells c.args.ids.now _ c.are_new.ensures
