use Rattle.std.proofs.Common.{◌≡◌, not, drop}
use Rattle.std.specs.List.{find}
use Rattle.bd_links.specs.Rows.{is_later}
use Rattle.bd_links.proofs.links.first_unordered.Given as goal

abbrev pub invariant-loop-d : goal.invariant-loop-d
invariant-loop-d l = find (λ d. not (is_later l.order l.j d)) (drop l.d-index l.deleters) ≡ find (λ d. not (is_later l.order l.j d)) l.deleters
