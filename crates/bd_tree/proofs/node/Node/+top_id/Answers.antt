use Rattle.std.proofs.Common.{◌≡◌, ◌+◌, max, map, drop, arith}
use Rattle.bd_tree.specs.Tree.{ids_of, greatest, joined}
use Rattle.bd_tree.proofs.BoundLemmas.{top_left}
use Rattle.bd_tree.proofs.node.Node.+top_id.Goals as goal

pub loop-kid-preserved : goal.loop-kid-preserved
loop-kid-preserved t c =
    let kids = c.as_slice-kid-items.result.now in
    let left : max c.loop-kid.most (greatest (joined (map ids_of (drop c.loop-kid.kid-index kids)))) ≡ greatest (ids_of c.args.self.now) = c.loop-kid.invariant in
    let top : c.max.inside.0 ≡ c.top_id.result = c.max.view_is in
    let next : max c.max-most.result (greatest (joined (map ids_of (drop (c.loop-kid.kid-index + 1) kids)))) ≡ greatest (ids_of c.args.self.now) =
    omega (arith, left, top, c.top_id.ensures, c.max-most.ensures, top_left kids c.loop-kid.kid-index c.kid-item.result c.loop-kid-test.true c.kid-item.is) in
    next
