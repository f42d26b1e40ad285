use Rattle.std.proofs.Common.{◌≡◌, ◌++◌, drop, map, filter}
use Rattle.std.specs.List.{enumerate_from}
use Rattle.bd_tree.specs.Tree.{id_of}
use Rattle.bd_shape.specs.Hull.{is_in_hull}
use Rattle.bd_shape.proofs.hulls.put_hull.Given as goal

abbrev pub invariant-loop-at : goal.invariant-loop-at
invariant-loop-at l =
    l.ids.items ++ map (λ k. id_of k.1) (filter (is_in_hull l.order l.i l.j (enumerate_from 0 l.kids)) (enumerate_from l.at (drop l.at l.kids)))
    ≡ l.initial.ids.items ++ map (λ k. id_of k.1) (filter (is_in_hull l.order l.i l.j (enumerate_from 0 l.kids)) (enumerate_from 0 l.kids))
