use Rattle.std.proofs.Common.{◌∙◌, ap}
use Rattle.bd_base.specs.Facts.{remove_fact}
use Rattle.bd_base.proofs.SetLemmas.{clear_single}
use Rattle.bd_base.proofs.facts.FactSet.remove.Goals as goal

pub returns-clause-removed : goal.returns-clause-removed
returns-clause-removed c = c.clear.ensures ∙ clear_single c.args.self.now c.f.inside.0 ∙ ap (λ z. remove_fact z c.args.self.now) c.f.view_is
