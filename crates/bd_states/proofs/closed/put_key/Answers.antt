use Rattle.std.specs.HashSet.{keys as keys_in}
use Rattle.bd_states.proofs.ClosedLemmas.{put_is}
use Rattle.bd_states.proofs.closed.put_key.Goals as goal

pub returns-clause-ok : goal.returns-clause-ok
returns-clause-ok c = put_is c.args.key (keys_in c.args.keys.now) (keys_in c.insert.new.self) c.in_ok-insert.field-0 _ c.requires c.in_ok-insert.ensures.added c.in_ok-insert.ensures.keys
