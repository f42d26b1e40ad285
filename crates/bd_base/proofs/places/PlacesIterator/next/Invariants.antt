use Rattle.std.proofs.Common.{◌≡◌, ◌+◌, ◌*◌, ◌≤◌, ◌^◌, ◌++◌, length}
use Rattle.bd_base.specs.Bits.{bits_of, row_of}
use Rattle.bd_base.proofs.places.PlacesIterator.next.Given as goal

abbrev pub invariant-loop-self : goal.invariant-loop-self
invariant-loop-self l = record {
  fits : l.self-inside.base + 64 * (length l.self-inside.rest.now + 1) ≤ 2 ^ 32;
  same : bits_of l.self-inside.base l.self-inside.left ++ row_of (l.self-inside.base + 64) l.self-inside.rest.now ≡ bits_of l.initial.self-inside.base l.initial.self-inside.left ++ row_of (l.initial.self-inside.base + 64) l.initial.self-inside.rest.now;
}

abbrev pub decreases-loop-self : goal.decreases-loop-self
decreases-loop-self l = length l.self-inside.rest.now
