use Rattle.std.proofs.Common.{◌++◌, ◌∷◌, [], List, sym, ap, ◌∙◌, append_assoc}
use Rattle.bd_tree.specs.declared.node.Node.{Node}
use Rattle.bd_merge.proofs.standing.behind.Goals as goal

pub loop-first-preserved : goal.loop-first-preserved
loop-first-preserved c =
    let inv = c.loop-first.invariant in
    let first = c.in-Some.first.now in
    (inv.0 ++ first ∷ [], inv.1 ∙ ap (λ (z : List Node). inv.0 ++ z) c.in-Some.ensures.cases.0 ∙ sym (append_assoc inv.0 (first ∷ []) c.in-Some.rest.now))
