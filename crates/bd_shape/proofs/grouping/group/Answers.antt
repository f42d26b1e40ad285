use Rattle.std.proofs.Common.{◌≡◌, ℕ, ◌+◌, ◌<◌, ◌≤◌, ◌||◌, sym, subst}
use Rattle.bd_base.specs.Facts.{has}
use Rattle.bd_tree.specs.declared.node.Node.{Node}
use Rattle.bd_tree.specs.Tree.{ids_of, greatest, depth_of, nodes_of, steps_of}
use Rattle.bd_tree.proofs.NodeLemmas.{steps_of-Block}
use Rattle.bd_shape.specs.Grouped.{HasSide, grouped, ids_taken, count_taken}
use Rattle.bd_shape.specs.Measures.{AddUpAlike}
use Rattle.bd_shape.proofs.ResultLemmas.{if_ok}
use Rattle.bd_shape.proofs.WholeLemmas.{orders_as_told, measures, nodes, ids_are, top, depth, side}
use Rattle.bd_shape.proofs.grouping.group.Goals as goal

pub returns-clause-measures : goal.returns-clause-measures
returns-clause-measures c =
    if_ok (λ (t : Node). t ≡ grouped c.args.tree.now c.args.block c.args.kids.now c.args.fresh) _ c.grouped_tree.result
    (λ t e. subst (λ (z : Node). AddUpAlike c.args.tree.now z) (sym e) (measures c.args.tree.now c.args.block c.args.fresh c.grouped_tree.ensures.well_formed c.args.kids.now c.requires.kids)) c.grouped_tree.ensures.tree

pub returns-clause-steps : goal.returns-clause-steps
returns-clause-steps c =
    if_ok (λ (t : Node). t ≡ grouped c.args.tree.now c.args.block c.args.kids.now c.args.fresh) _ c.grouped_tree.result
    (λ t e. subst (λ (z : Node). steps_of z ≡ steps_of c.args.tree.now) (sym e) (measures c.args.tree.now c.args.block c.args.fresh c.grouped_tree.ensures.well_formed c.args.kids.now c.requires.kids steps_of steps_of-Block)) c.grouped_tree.ensures.tree

pub returns-clause-nodes : goal.returns-clause-nodes
returns-clause-nodes c =
    if_ok (λ (t : Node). t ≡ grouped c.args.tree.now c.args.block c.args.kids.now c.args.fresh) _ c.grouped_tree.result
    (λ t e. subst (λ (z : Node). nodes_of z ≡ nodes_of c.args.tree.now + count_taken c.args.kids.now) (sym e) (nodes c.args.tree.now c.args.block c.args.fresh c.grouped_tree.ensures.well_formed c.args.kids.now c.requires.kids)) c.grouped_tree.ensures.tree

pub returns-clause-ids : goal.returns-clause-ids
returns-clause-ids c =
    if_ok (λ (t : Node). t ≡ grouped c.args.tree.now c.args.block c.args.kids.now c.args.fresh) _ c.grouped_tree.result
    (λ t e. subst (λ (z : Node). (q : ℕ) → has (ids_of z) q ≡ (has (ids_of c.args.tree.now) q || has (ids_taken c.args.kids.now c.args.fresh) q)) (sym e) (ids_are c.args.tree.now c.args.block c.args.fresh c.grouped_tree.ensures.well_formed c.args.kids.now c.requires.kids)) c.grouped_tree.ensures.tree

pub returns-clause-top : goal.returns-clause-top
returns-clause-top c =
    if_ok (λ (t : Node). t ≡ grouped c.args.tree.now c.args.block c.args.kids.now c.args.fresh) _ c.grouped_tree.result
    (λ t e. subst (λ (z : Node). greatest (ids_of z) < c.args.fresh + count_taken c.args.kids.now) (sym e) (top c.args.tree.now c.args.block c.args.fresh c.grouped_tree.ensures.well_formed c.args.kids.now c.requires.kids c.requires.fresh)) c.grouped_tree.ensures.tree

pub returns-clause-depth : goal.returns-clause-depth
returns-clause-depth c =
    if_ok (λ (t : Node). t ≡ grouped c.args.tree.now c.args.block c.args.kids.now c.args.fresh) _ c.grouped_tree.result
    (λ t e. subst (λ (z : Node). depth_of z ≤ depth_of c.args.tree.now + count_taken c.args.kids.now) (sym e) (depth c.args.tree.now c.args.block c.args.fresh c.grouped_tree.ensures.well_formed c.args.kids.now c.requires.kids)) c.grouped_tree.ensures.tree

pub returns-clause-kids : goal.returns-clause-kids
returns-clause-kids c =
    if_ok (λ (t : Node). t ≡ grouped c.args.tree.now c.args.block c.args.kids.now c.args.fresh) _ c.grouped_tree.result
    (λ t e. subst (λ (z : Node). HasSide c.args.tree.now c.args.block c.args.kids.now c.args.fresh z) (sym e) (side c.args.tree.now c.args.block c.args.fresh c.grouped_tree.ensures.well_formed c.args.kids.now c.requires.kids)) c.grouped_tree.ensures.tree

pub returns-clause-exact : goal.returns-clause-exact
returns-clause-exact c = orders_as_told c.args.tree.now c.args.block c.args.kids.now c.grouped_tree.ensures.well_formed c.requires.kids
