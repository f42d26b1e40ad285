use Rattle.bd_heur.specs.declared.join.Join.TheVariants.{Sum}
use Rattle.bd_heur.proofs.ReachLemmas.{reachable_from}
use Rattle.bd_heur.proofs.heuristics.h_add.Goals as goal

pub returns-clause-some : goal.returns-clause-some
returns-clause-some c = reachable_from Sum c.args.task.now c.init.ensures.task c.args.s.now c.goal_value.result c.goal_value.ensures
