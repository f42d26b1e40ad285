use Rattle.std.proofs.Common.{◌≡◌}
use Rattle.bd_subtask.specs.Level.{part_deletes, settle_all, start_of}
use Rattle.bd_subtask.proofs.part.all_deletes.Given as goal

abbrev pub invariant-loop-r : goal.invariant-loop-r
invariant-loop-r l =
    settle_all (part_deletes l.order l.marks) l.rows l.facts l.r-iterator
    ≡ settle_all (part_deletes l.order l.marks) l.rows (start_of l.part.most l.whole) l.part.changed
