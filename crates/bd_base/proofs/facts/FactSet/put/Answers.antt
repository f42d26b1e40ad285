use Rattle.bd_base.proofs.SetLemmas.{put_nothing}
use Rattle.bd_base.proofs.facts.FactSet.put.Goals as goal

pub returns-then-word-eq0-clause-ok : goal.returns-then-word-eq0-clause-ok
returns-then-word-eq0-clause-ok c = put_nothing c.args.self.now c.args.number c.args.word c.if-word-eq0.true
