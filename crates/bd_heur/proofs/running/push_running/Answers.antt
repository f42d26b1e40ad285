use Rattle.bd_heur.proofs.RunningLemmas.{push_more, push_last}
use Rattle.bd_heur.proofs.running.push_running.Goals as goal

pub returns-clause-kept : goal.returns-clause-kept
returns-clause-kept c = λ x i. push_more c.args.items.now.items c.push.new.self.items c.a.inside.0 x c.in_ok-push.ensures.items i

pub returns-clause-pushed : goal.returns-clause-pushed
returns-clause-pushed c = λ runs. push_last c.args.items.now.items c.push.new.self.items c.a.inside.0 c.args.a c.in_ok-push.ensures.items c.a.view_is
