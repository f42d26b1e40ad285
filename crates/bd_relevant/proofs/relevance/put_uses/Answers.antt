use Rattle.bd_relevant.proofs.MissingLemmas.{takes_both}
use Rattle.bd_relevant.proofs.relevance.put_uses.Goals as goal

pub returns : goal.returns
returns c =
    takes_both c.args.relevant.now c.args.action.now c.args.used.now c.args.deleted.now c.join.new.self c.join-2.new.self c.in_ok-join.ensures.ok c.in_ok-join-2.ensures.ok
