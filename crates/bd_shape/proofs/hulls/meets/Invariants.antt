use Rattle.std.proofs.Common.{◌≡◌, ◌&&◌, drop}
use Rattle.std.specs.List.{list_any, enumerate_from}
use Rattle.bd_base.specs.Pairs.{is_before}
use Rattle.bd_shape.proofs.hulls.meets.Given as goal

abbrev pub invariant-loop-k : goal.invariant-loop-k
invariant-loop-k l = list_any (λ k. is_before l.order l.a k.0 && is_before l.order k.0 l.b) (enumerate_from l.k (drop l.k l.kids)) ≡ list_any (λ k. is_before l.order l.a k.0 && is_before l.order k.0 l.b) (enumerate_from 0 l.kids)
