-- How open entries are ordered: the greatest is one of the least total, and of those one of the greatest cost.
use Rattle.std.specs.Ordering.{nat_cmp, on, flip_args, then_cmp}
use Rattle.std.specs.declared.cmp.Ordering.{Ordering}
use Rattle.bd_states.specs.declared.entry.Entry.{Entry}

abbrev pub entry_cmp : Entry → Entry → Ordering
entry_cmp = then_cmp (flip_args (on (λ (e : Entry). e.total) nat_cmp)) (on (λ (e : Entry). e.cost) nat_cmp)
