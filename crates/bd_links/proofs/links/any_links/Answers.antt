use Rattle.std.proofs.Common.{◌∙◌}
use Rattle.bd_links.specs.Rows.{is_later}
use Rattle.bd_links.proofs.PastLemmas.{find_at, find_none, links_where_later}
use Rattle.bd_links.proofs.links.any_links.Goals as goal

pub any_links_past-requires-clause-found : goal.any_links_past-requires-clause-found
any_links_past-requires-clause-found c = (find_at (is_later c.args.order.now c.args.j) c.args.deleters.now c.in-Some.m c.in-Some.ensures).0

pub any_links_past-requires-clause-unordered : goal.any_links_past-requires-clause-unordered
any_links_past-requires-clause-unordered c = (find_at (is_later c.args.order.now c.args.j) c.args.deleters.now c.in-Some.m c.in-Some.ensures).1

pub returns-in-None : goal.returns-in-None
returns-in-None c =
    c.any_before.ensures
    ∙ links_where_later c.args.order.now c.args.deleters.now c.args.j (find_none (is_later c.args.order.now c.args.j) c.args.deleters.now c.in-None.ensures) c.args.givers.now
