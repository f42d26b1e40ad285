use Rattle.std.proofs.Common.{◌≡◌, List, Some, map, sym, ap, ◌∙◌}
use Rattle.bd_tree.specs.declared.node.Node.{Node, Block}
use Rattle.bd_tree.specs.Tree.{find_in}
use Rattle.bd_tree.specs.Tree.{id_of}
use Rattle.bd_tree.specs.WellFormed.{are_distinct}
use Rattle.bd_merge.proofs.PartLemmas.{kids_distinct}
use Rattle.bd_merge.proofs.StandLemmas.{judged}
use Rattle.bd_merge.proofs.standing.stands.Goals as goal

pub are_kids-requires : goal.are_kids-requires
are_kids-requires c =
    let found : find_in c.args.window.now.block c.args.tree.now ≡ Some (Block c.in-Block.id c.in-Block.kids c.in-Block.order) = sym c.in-Some.ensures.found ∙ ap Some c.in-Block.is in
    ap (λ (z : List Node). are_distinct (map id_of z)) c.as_slice-kids.ensures
    ∙ kids_distinct c.args.tree.now c.args.window.now.block c.in-Block.id c.in-Block.kids c.in-Block.order c.root-root.ensures.well_formed.distinct found

pub returns-then-are_together : goal.returns-then-are_together
returns-then-are_together c =
    let found : find_in c.args.window.now.block c.args.tree.now ≡ Some (Block c.in-Block.id c.in-Block.kids c.in-Block.order) = sym c.in-Some.ensures.found ∙ ap Some c.in-Block.is in
    judged c.args.tree.now c.args.window.now _ _ _ found _ _ _ _ c.as_slice-kids.ensures c.as_slice-carried.ensures (c.are_kids.ensures.0 (cc)) c.of_nodes.ensures (sym c.are_together.ensures ∙ c.if-are_together.true)

pub returns-else-are_together : goal.returns-else-are_together
returns-else-are_together c =
    let found : find_in c.args.window.now.block c.args.tree.now ≡ Some (Block c.in-Block.id c.in-Block.kids c.in-Block.order) = sym c.in-Some.ensures.found ∙ ap Some c.in-Block.is in
    judged c.args.tree.now c.args.window.now _ _ _ found _ _ _ _ c.as_slice-kids.ensures c.as_slice-carried.ensures (c.are_kids.ensures.0 (cc)) c.of_nodes.ensures (sym c.are_together.ensures ∙ c.if-are_together.false)
