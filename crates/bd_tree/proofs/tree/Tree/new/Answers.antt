use Rattle.std.proofs.Common.{sym, ◌∙◌}
use Rattle.bd_tree.proofs.MisfitLemmas.{fits_from, exactly}
use Rattle.bd_tree.proofs.tree.Tree.new.Goals as goal

pub of-requires : goal.of-requires
of-requires c = (fits_from c.args.root (sym c.in_ok-first_misfit.ensures ∙ c.in-None.is)).0

pub returns-in-None-clause-exact : goal.returns-in-None-clause-exact
returns-in-None-clause-exact c = exactly c.args.root

pub returns-in_err-first_misfit-clause-exact : goal.returns-in_err-first_misfit-clause-exact
returns-in_err-first_misfit-clause-exact c = exactly c.args.root

pub returns-in-Some-clause-exact : goal.returns-in-Some-clause-exact
returns-in-Some-clause-exact c = exactly c.args.root
