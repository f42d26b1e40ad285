use Rattle.std.proofs.Common.{◌≡◌, ◌≤◌, List, sym, ap, ◌∙◌, subst}
use Rattle.std.specs.List.{enumerate_from}
use Rattle.bd_tree.specs.declared.node.Node.{Node, Block}
use Rattle.bd_tree.specs.Tree.{nodes_of}
use Rattle.bd_tree.specs.WellFormed.{has_orders}
use Rattle.bd_shape.specs.Restricted.{members, restricted_block}
use Rattle.bd_shape.proofs.ExactLemmas.{restricts_as_told}
use Rattle.bd_shape.proofs.PartLemmas.{restricted_orders, restricted_nodes}
use Rattle.bd_shape.proofs.ResultLemmas.{if_ok}
use Rattle.bd_shape.proofs.restricting.restrict.Goals as goal

pub returns-in-Block-clause-ordered : goal.returns-in-Block-clause-ordered
returns-in-Block-clause-ordered c =
    let block : c.args.block.now ≡ Block c.in-Block.id c.as_slice.result.now c.in-Block.order = c.in-Block.is ∙ ap (λ (z : List Node). Block c.in-Block.id z c.in-Block.order) (sym c.as_slice.ensures) in
    if_ok (λ (n : Node). n ≡ restricted_block c.in-Block.id c.in-Block.order (members c.args.kids.now (enumerate_from 0 c.as_slice.result.now))) _ c.restricted_block.result
    (λ n e h. ap has_orders e ∙ restricted_orders c.in-Block.id c.as_slice.result.now c.in-Block.order c.args.kids.now (ap has_orders (sym block) ∙ h)) c.restricted_block.ensures

pub returns-in-Block-clause-nodes : goal.returns-in-Block-clause-nodes
returns-in-Block-clause-nodes c =
    let block : c.args.block.now ≡ Block c.in-Block.id c.as_slice.result.now c.in-Block.order = c.in-Block.is ∙ ap (λ (z : List Node). Block c.in-Block.id z c.in-Block.order) (sym c.as_slice.ensures) in
    if_ok (λ (n : Node). n ≡ restricted_block c.in-Block.id c.in-Block.order (members c.args.kids.now (enumerate_from 0 c.as_slice.result.now))) _ c.restricted_block.result
    (λ n e. subst (λ (z : Node). nodes_of n ≤ nodes_of z) (sym block) (subst (λ (z : Node). nodes_of z ≤ nodes_of (Block c.in-Block.id c.as_slice.result.now c.in-Block.order)) (sym e) (restricted_nodes c.in-Block.id c.as_slice.result.now c.in-Block.order c.args.kids.now))) c.restricted_block.ensures

pub returns-in-Block-clause-exact : goal.returns-in-Block-clause-exact
returns-in-Block-clause-exact c = restricts_as_told c.args.block.now c.args.kids.now

pub returns-in-Step-clause-exact : goal.returns-in-Step-clause-exact
returns-in-Step-clause-exact c = restricts_as_told c.args.block.now c.args.kids.now
