use Rattle.std.proofs.Common.{◌≡◌, not, filter}
use Rattle.bd_base.specs.Facts.{has, plus}
use Rattle.bd_links.proofs.in_turn.need_more.Given as goal

abbrev pub invariant-loop-p : goal.invariant-loop-p
invariant-loop-p l = plus l.need (filter (λ p. not (has l.given p)) l.p-iterator) ≡ plus l.initial.need (filter (λ p. not (has l.given p)) l.wanted)
