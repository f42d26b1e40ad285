use Rattle.std.proofs.Common.{◌∙◌, [], List, ℕ, ap}
use Rattle.bd_base.specs.Facts.{plus}
use Rattle.bd_base.proofs.FactLemmas.{permuted_set}
use Rattle.bd_base.proofs.facts.FactSet.of.Goals as goal

pub returns : goal.returns
returns c = c.settle.ensures ∙ c.in_ok-cells_of_facts.ensures.0 ∙ ap (λ (z : List ℕ). plus [] z) c.deref.ensures.value ∙ permuted_set c.args.items.items _ c.sort.ensures.permutation
