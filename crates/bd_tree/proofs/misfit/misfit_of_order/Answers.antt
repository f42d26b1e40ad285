use Rattle.std.proofs.Common.{sym, ◌∙◌}
use Rattle.bd_tree.proofs.MisfitLemmas.{total_fits, stray_none}
use Rattle.bd_tree.proofs.misfit.misfit_of_order.Goals as goal

pub returns-then-is_total : goal.returns-then-is_total
returns-then-is_total c = sym (total_fits c.args.n c.args.order.now (c.is_total.ensures.0 c.if-is_total.true))

pub first_gap-requires : goal.first_gap-requires
first_gap-requires c = (stray_none c.args.n (0, 0) c.args.order.now (sym c.first_stray.ensures ∙ c.in-None.is)).2
