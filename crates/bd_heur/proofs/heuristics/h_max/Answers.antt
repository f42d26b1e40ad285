use Rattle.bd_heur.specs.declared.join.Join.TheVariants.{Greatest}
use Rattle.bd_heur.proofs.ConsistentLemmas.{admissible_from}
use Rattle.bd_heur.proofs.ReachLemmas.{reachable_from}
use Rattle.bd_heur.proofs.heuristics.h_max.Goals as goal

pub returns-clause-some : goal.returns-clause-some
returns-clause-some c = reachable_from Greatest c.args.task.now c.init.ensures.task c.args.s.now c.goal_value.result c.goal_value.ensures

pub returns-clause-admissible : goal.returns-clause-admissible
returns-clause-admissible c = admissible_from c.args.task.now c.init.ensures.task c.args.s.now c.goal_value.result c.goal_value.ensures
