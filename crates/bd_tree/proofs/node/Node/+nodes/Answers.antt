use Rattle.std.proofs.Common.{◌≡◌, List, [], map, drop, ap, arith}
use Rattle.std.proofs.Math.ListN.{drop_of_length-le}
use Rattle.bd_tree.specs.declared.node.Node.{Node}
use Rattle.bd_tree.specs.Tree.{nodes_of, total}
use Rattle.bd_tree.proofs.node.Node.+nodes.Goals as goal

pub returns-after-loop-kid : goal.returns-after-loop-kid
returns-after-loop-kid t c =
    let done : drop c.loop-kid.kid-index c.as_slice-kid-items.result.now ≡ [] = drop_of_length-le c.as_slice-kid-items.result.now (omega (arith, c.loop-kid-test.false)) in
    let none : total (map nodes_of (drop c.loop-kid.kid-index c.as_slice-kid-items.result.now)) ≡ 0 = ap (λ (z : List Node). total (map nodes_of z)) done in
    omega (arith, none, c.loop-kid.invariant.counted, c.loop-kid.invariant.fits)
