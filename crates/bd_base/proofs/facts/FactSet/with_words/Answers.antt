use Rattle.std.proofs.Common.{◌∙◌, arith}
use Rattle.bd_base.proofs.SetLemmas.{plus_step}
use Rattle.bd_base.proofs.facts.FactSet.with_words.Goals as goal

pub loop-n-preserved : goal.loop-n-preserved
loop-n-preserved c = plus_step c.loop-n.set c.put.new.self c.args.words.now c.loop-n.n (omega arith) c.in_ok-put.ensures.ok ∙ c.loop-n.invariant
