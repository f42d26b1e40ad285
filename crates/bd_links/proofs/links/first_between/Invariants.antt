use Rattle.std.proofs.Common.{◌≡◌, not, drop}
use Rattle.std.specs.List.{find}
use Rattle.bd_links.specs.Rows.{is_aside}
use Rattle.bd_links.proofs.links.first_between.Given as goal

abbrev pub invariant-loop-d : goal.invariant-loop-d
invariant-loop-d l = find (λ d. not (is_aside l.order l.i l.j d)) (drop l.d-index l.deleters) ≡ find (λ d. not (is_aside l.order l.i l.j d)) l.deleters
