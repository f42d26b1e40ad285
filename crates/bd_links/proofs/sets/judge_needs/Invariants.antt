use Rattle.std.proofs.Common.{◌≡◌, not, filter}
use Rattle.std.specs.List.{find}
use Rattle.bd_base.specs.Facts.{plus}
use Rattle.bd_links.specs.Rows.{linked_by, safe_by}
use Rattle.bd_links.proofs.sets.judge_needs.Given as goal

abbrev pub invariant-loop-p : goal.invariant-loop-p
invariant-loop-p l = record {
  told : find (λ p. not (safe_by l.order l.touches l.j p)) l.p-iterator ≡ find (λ p. not (safe_by l.order l.touches l.j p)) l.facts;
  need : plus l.need (filter (λ p. not (linked_by l.order l.touches l.j p)) l.p-iterator)
      ≡ plus l.initial.need (filter (λ p. not (linked_by l.order l.touches l.j p)) l.facts);
}
