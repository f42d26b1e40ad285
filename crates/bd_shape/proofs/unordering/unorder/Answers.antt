use Rattle.std.proofs.Common.{◌≡◌, sym, ap, ◌∙◌, subst}
use Rattle.bd_tree.specs.declared.node.Node.{Node}
use Rattle.bd_tree.specs.Tree.{ids_of, depth_of, steps_of, nodes_of, listed_of}
use Rattle.bd_tree.specs.WellFormed.{IsWellFormed}
use Rattle.bd_tree.proofs.NodeLemmas.{steps_of-Block}
use Rattle.bd_shape.specs.Kids.{kids_at}
use Rattle.bd_shape.specs.Measures.{AddUpAlike}
use Rattle.bd_shape.specs.Unordered.{unordered}
use Rattle.bd_shape.proofs.UnorderLemmas.{unordered_measures, unordered_nodes, unordered_ids, unordered_listed, unordered_depth, unordered_kids, unordered_well_formed}
use Rattle.bd_shape.proofs.unordering.unorder.Goals as goal

pub of-requires : goal.of-requires
of-requires c =
    let made : c.in_ok-new_node.field-0 ≡ unordered c.args.tree.now c.args.block c.args.i c.args.j =
    c.in_ok-new_node.ensures ∙ ap (λ (z : Node). unordered z c.args.block c.args.i c.args.j) c.root.ensures.root in
    subst IsWellFormed (sym made) (unordered_well_formed c.args.tree.now c.args.block c.args.i c.args.j c.root.ensures.well_formed c.requires)

pub returns-clause-measures : goal.returns-clause-measures
returns-clause-measures c =
    let made : c.of.result ≡ unordered c.args.tree.now c.args.block c.args.i c.args.j =
    c.of.ensures ∙ c.in_ok-new_node.ensures ∙ ap (λ (z : Node). unordered z c.args.block c.args.i c.args.j) c.root.ensures.root in
    subst (λ (z : Node). AddUpAlike c.args.tree.now z) (sym made) (unordered_measures c.args.tree.now c.args.block c.args.i c.args.j c.root.ensures.well_formed c.requires)

pub returns-clause-nodes : goal.returns-clause-nodes
returns-clause-nodes c =
    let made : c.of.result ≡ unordered c.args.tree.now c.args.block c.args.i c.args.j =
    c.of.ensures ∙ c.in_ok-new_node.ensures ∙ ap (λ (z : Node). unordered z c.args.block c.args.i c.args.j) c.root.ensures.root in
    subst (λ (z : Node). nodes_of z ≡ nodes_of c.args.tree.now) (sym made) (unordered_nodes c.args.tree.now c.args.block c.args.i c.args.j c.root.ensures.well_formed c.requires)

pub returns-clause-ids : goal.returns-clause-ids
returns-clause-ids c =
    let made : c.of.result ≡ unordered c.args.tree.now c.args.block c.args.i c.args.j =
    c.of.ensures ∙ c.in_ok-new_node.ensures ∙ ap (λ (z : Node). unordered z c.args.block c.args.i c.args.j) c.root.ensures.root in
    subst (λ (z : Node). ids_of z ≡ ids_of c.args.tree.now) (sym made) (unordered_ids c.args.tree.now c.args.block c.args.i c.args.j c.root.ensures.well_formed c.requires)

pub returns-clause-depth : goal.returns-clause-depth
returns-clause-depth c =
    let made : c.of.result ≡ unordered c.args.tree.now c.args.block c.args.i c.args.j =
    c.of.ensures ∙ c.in_ok-new_node.ensures ∙ ap (λ (z : Node). unordered z c.args.block c.args.i c.args.j) c.root.ensures.root in
    subst (λ (z : Node). depth_of z ≡ depth_of c.args.tree.now) (sym made) (unordered_depth c.args.tree.now c.args.block c.args.i c.args.j c.root.ensures.well_formed c.requires)

pub returns-clause-listed : goal.returns-clause-listed
returns-clause-listed c =
    let made : c.of.result ≡ unordered c.args.tree.now c.args.block c.args.i c.args.j =
    c.of.ensures ∙ c.in_ok-new_node.ensures ∙ ap (λ (z : Node). unordered z c.args.block c.args.i c.args.j) c.root.ensures.root in
    subst (λ (z : Node). listed_of z ≡ listed_of c.args.tree.now) (sym made) (unordered_listed c.args.tree.now c.args.block c.args.i c.args.j c.root.ensures.well_formed c.requires)

pub returns-clause-kids : goal.returns-clause-kids
returns-clause-kids c =
    let made : c.of.result ≡ unordered c.args.tree.now c.args.block c.args.i c.args.j =
    c.of.ensures ∙ c.in_ok-new_node.ensures ∙ ap (λ (z : Node). unordered z c.args.block c.args.i c.args.j) c.root.ensures.root in
    subst (λ (z : Node). kids_at c.args.block z ≡ kids_at c.args.block c.args.tree.now) (sym made) (unordered_kids c.args.tree.now c.args.block c.args.i c.args.j c.root.ensures.well_formed c.requires)

pub returns-clause-steps : goal.returns-clause-steps
returns-clause-steps c =
    let made : c.of.result ≡ unordered c.args.tree.now c.args.block c.args.i c.args.j =
    c.of.ensures ∙ c.in_ok-new_node.ensures ∙ ap (λ (z : Node). unordered z c.args.block c.args.i c.args.j) c.root.ensures.root in
    subst (λ (z : Node). steps_of z ≡ steps_of c.args.tree.now) (sym made) (unordered_measures c.args.tree.now c.args.block c.args.i c.args.j c.root.ensures.well_formed c.requires steps_of steps_of-Block)
