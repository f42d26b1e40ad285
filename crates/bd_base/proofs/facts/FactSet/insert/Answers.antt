use Rattle.std.proofs.Common.{◌∙◌, ap}
use Rattle.bd_base.specs.Facts.{insert_fact}
use Rattle.bd_base.proofs.SetLemmas.{put_single}
use Rattle.bd_base.proofs.facts.FactSet.insert.Goals as goal

pub returns-clause-ok : goal.returns-clause-ok
returns-clause-ok c = c.in_ok-put.ensures.ok ∙ put_single c.args.self.now c.f.inside.0 ∙ ap (λ z. insert_fact z c.args.self.now) c.f.view_is
