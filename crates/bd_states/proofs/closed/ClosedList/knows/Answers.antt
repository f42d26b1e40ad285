use Rattle.std.proofs.Common.{subst, ◌≡◌, [], List, Some, slice_get}
use Rattle.bd_states.specs.Entries.{IsKnown}
use Rattle.bd_states.specs.declared.entry.Entry.{Entry}
use Rattle.bd_states.proofs.EntryLemmas.{known_by}
use Rattle.bd_states.proofs.closed.ClosedList.knows.Goals as goal

pub returns : goal.returns
returns c = λ same.
    subst (λ (z : List Entry). IsKnown z [] c.args.s.now c.args.cost) c.self.view_is
    (known_by c.self.inside.entries.items c.in-Some.ensures.0 c.in-Some.entry.now c.args.s.now c.args.cost
    (subst (λ (z : List Entry). slice_get z c.in-Some.ensures.0 ≡ Some c.in-Some.entry.now) c.deref.ensures.value c.in-Some.ensures.1) (c.are_same.ensures same) c.if-entry-cost.false)
