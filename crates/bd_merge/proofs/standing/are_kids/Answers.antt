use Rattle.bd_merge.proofs.WalkLemmas.{kids_in_order}
use Rattle.bd_merge.proofs.standing.are_kids.Goals as goal

pub returns-then-come_in_order : goal.returns-then-come_in_order
returns-then-come_in_order c = kids_in_order c.args.kids.now c.args.carried.now _ c.requires (c.come_in_order.ensures c.if-come_in_order.true) c.is_empty.ensures
