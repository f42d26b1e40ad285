use Rattle.std.proofs.Common.{◌≡◌, not, filter}
use Rattle.bd_base.specs.Facts.{plus}
use Rattle.bd_links.specs.Rows.{linked_by}
use Rattle.bd_links.proofs.sets.need_unlinked.Given as goal

abbrev pub invariant-loop-p : goal.invariant-loop-p
invariant-loop-p l =
    plus l.need (filter (λ p. not (linked_by l.order l.touches l.j p)) l.p-iterator)
    ≡ plus l.initial.need (filter (λ p. not (linked_by l.order l.touches l.j p)) l.facts)
