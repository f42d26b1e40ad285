use Rattle.std.proofs.Common.{subst, sym}
use Rattle.std.specs.HashSet.{keys as keys_in}
use Rattle.bd_states.specs.Entries.{states_of}
use Rattle.bd_states.specs.Passed.{Differs}
use Rattle.bd_states.proofs.ClosedLemmas.{no_key_from, keys_more}
use Rattle.bd_states.proofs.closed.ClosedList.add.Goals as goal

pub put_key-requires : goal.put_key-requires
put_key-requires c =
    no_key_from (keys_in c.self.inside.keys) c.self.inside.entries.items c.in_ok-key.key.items c.args.entry.state c.self.invariant c.in_ok-key.ensures
    (subst (λ z. Differs c.args.entry.state (states_of z)) (sym c.self.view_is) c.requires)

pub invariant_of-self-in-Ok : goal.invariant_of-self-in-Ok
invariant_of-self-in-Ok c =
    keys_more (keys_in c.self.inside.keys) (keys_in c.put_key.new.keys) c.self.inside.entries.items c.push.new.self.items c.args.entry c.in_ok-key.key.items c.self.invariant c.in_ok-key.ensures c.in_ok-push.ensures.items c.in-Ok.ensures.ok
