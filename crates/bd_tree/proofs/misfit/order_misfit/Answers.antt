use Rattle.bd_tree.proofs.MisfitLemmas.{order_from, order_fits}
use Rattle.bd_tree.proofs.misfit.order_misfit.Goals as goal

pub returns-clause-exact : goal.returns-clause-exact
returns-clause-exact c = (order_from c.args.n c.args.order.now, order_fits c.args.n c.args.order.now)
