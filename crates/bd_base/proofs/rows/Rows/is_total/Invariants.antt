use Rattle.std.proofs.Common.{◌≡◌, ◌+◌, ◌-◌, ◌<◌, ℕ, min}
use Rattle.bd_base.specs.Bits.{upto}
use Rattle.bd_base.specs.Pairs.{after_of}
use Rattle.bd_base.proofs.rows.Rows.is_total.Given as goal

abbrev pub invariant-loop-i : goal.invariant-loop-i
invariant-loop-i l = (k : ℕ) → k < l.i → after_of l.self k ≡ upto (min l.n (k + 1)) (l.n - min l.n (k + 1))
