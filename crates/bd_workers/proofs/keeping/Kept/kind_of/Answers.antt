use Rattle.std.proofs.Common.{◌∙◌}
use Rattle.bd_workers.proofs.KeptLemmas.{tells_at}
use Rattle.bd_workers.proofs.keeping.Kept.kind_of.Goals as goal

pub returns-in_ok-kind-in-Some-get : goal.returns-in_ok-kind-in-Some-get
returns-in_ok-kind-in-Some-get c = tells_at c.deref.result.now c.args.self.now c.in-Some.at.now c.in-Some-get.verdict.now c.args.sub.now c.in_ok-kind-in-Some-get.kind (c.deref.ensures.value ∙ c.self.view_is) c.in-Some-get.ensures.lookup.3.0 (c.in-Some-get.ensures.lookup.3.1 c.in-Some-get.verdict.now) (c.is_same.ensures c.if-not-is_same.false) c.in_ok-kind-in-Some-get.ensures
