use Rattle.std.proofs.Common.{◌≡◌, sym, ap, ◌∙◌, subst}
use Rattle.bd_tree.specs.declared.node.Node.{Node}
use Rattle.bd_tree.specs.WellFormed.{IsWellFormed}
use Rattle.bd_shape.specs.Grouped.{grouped_block}
use Rattle.bd_shape.specs.Remade.{remade}
use Rattle.bd_shape.proofs.ResultLemmas.{if_ok}
use Rattle.bd_shape.proofs.WholeLemmas.{grouped_well_formed, few_ids, more_ids}
use Rattle.bd_shape.proofs.grouping.grouped_tree.Goals as goal

pub of-requires : goal.of-requires
of-requires c =
    let made : c.in_ok-new_node.field-0 ≡ remade c.args.tree.now c.args.block (grouped_block c.args.block c.args.kids.now c.args.fresh) =
    c.in_ok-new_node.ensures ∙ ap (λ (z : Node). remade z c.args.block (grouped_block c.args.block c.args.kids.now c.args.fresh)) c.root-root.ensures.root in
    subst IsWellFormed (sym made) (grouped_well_formed c.args.tree.now c.args.block c.args.kids.now c.args.fresh c.root-root.ensures.well_formed c.requires.kids c.requires.fresh)

pub returns-then-kids-lt2-clause-tree : goal.returns-then-kids-lt2-clause-tree
returns-then-kids-lt2-clause-tree c =
    if_ok (λ (t : Node). t ≡ c.args.tree.now) _ c.try_copy.result (λ t e. e ∙ few_ids c.args.tree.now c.args.block c.args.fresh c.root-root.ensures.well_formed c.args.kids.now c.if-kids-lt2.true) c.try_copy.ensures

pub returns-clause-tree : goal.returns-clause-tree
returns-clause-tree c =
    c.of.ensures ∙ c.in_ok-new_node.ensures ∙ ap (λ (z : Node). remade z c.args.block (grouped_block c.args.block c.args.kids.now c.args.fresh)) c.root-root.ensures.root
    ∙ more_ids c.args.tree.now c.args.block c.args.fresh c.root-root.ensures.well_formed c.args.kids.now c.if-kids-lt2.false
