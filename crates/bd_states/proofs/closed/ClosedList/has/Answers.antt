use Rattle.std.proofs.Common.{subst}
use Rattle.std.specs.HashSet.{keys as keys_in}
use Rattle.bd_states.specs.Entries.{states_of}
use Rattle.bd_states.specs.Passed.{Differs}
use Rattle.bd_states.proofs.ClosedLemmas.{lacks_from}
use Rattle.bd_states.proofs.closed.ClosedList.has.Goals as goal

pub returns-clause-lacks : goal.returns-clause-lacks
returns-clause-lacks c = λ no_key.
    subst (λ z. Differs c.args.s.now (states_of z)) c.self.view_is
    (lacks_from (keys_in c.self.inside.keys) c.self.inside.entries.items c.in_ok-key.key.items c.args.s.now c.has_key.result c.self.invariant c.in_ok-key.ensures c.has_key.ensures no_key)
