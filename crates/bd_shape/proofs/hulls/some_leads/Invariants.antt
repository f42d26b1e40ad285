use Rattle.std.proofs.Common.{◌≡◌, ◌&&◌, [], ◌∷◌, drop}
use Rattle.std.specs.List.{list_any, enumerate_from}
use Rattle.bd_base.specs.Pairs.{is_before}
use Rattle.bd_tree.specs.Convex.{is_member}
use Rattle.bd_shape.proofs.hulls.some_leads.Given as goal

abbrev pub invariant-loop-a : goal.invariant-loop-a
invariant-loop-a l =
    list_any (λ a. is_member (l.fn.i ∷ []) a && list_any (λ b. is_member (l.j ∷ []) b && list_any (λ k. is_before l.order a.0 k.0 && is_before l.order k.0 b.0) (enumerate_from 0 l.kids)) (enumerate_from 0 l.kids)) (enumerate_from l.a (drop l.a l.kids))
    ≡ list_any (λ a. is_member (l.fn.i ∷ []) a && list_any (λ b. is_member (l.j ∷ []) b && list_any (λ k. is_before l.order a.0 k.0 && is_before l.order k.0 b.0) (enumerate_from 0 l.kids)) (enumerate_from 0 l.kids)) (enumerate_from 0 l.kids)
