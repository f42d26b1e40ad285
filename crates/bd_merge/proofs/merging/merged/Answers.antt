use Rattle.std.proofs.Common.{◌≡◌, ◌+◌, ◌<◌, ◌≤◌, length, map, sym, ap, ◌∙◌, subst}
use Rattle.bd_tree.specs.declared.node.Node.{Node}
use Rattle.bd_tree.specs.Tree.{ids_of, greatest, nodes_of, steps_of, total}
use Rattle.bd_tree.specs.WellFormed.{IsWellFormed}
use Rattle.bd_merge.specs.Merged.{merged, Exchanges}
use Rattle.bd_merge.proofs.IdLemmas.{merged_nodes, merged_top}
use Rattle.bd_merge.proofs.PartLemmas.{merged_adds, merged_steps}
use Rattle.bd_merge.proofs.WholeLemmas.{merged_well_formed}
use Rattle.bd_merge.proofs.merging.merged.Goals as goal

pub of-requires : goal.of-requires
of-requires c =
    let made : c.in_ok-new_node.field-0 ≡ merged c.args.tree.now c.args.window.now c.args.list.now c.args.next =
    c.in_ok-new_node.ensures ∙ ap (λ (z : Node). merged z c.args.window.now c.args.list.now c.args.next) c.root.ensures.root in
    subst IsWellFormed (sym made) (merged_well_formed c.args.window.now c.args.list.now c.args.next c.args.tree.now c.root.ensures.well_formed c.requires.fresh)

pub returns-clause-measures : goal.returns-clause-measures
returns-clause-measures c =
    let made : c.of.result ≡ merged c.args.tree.now c.args.window.now c.args.list.now c.args.next =
    c.of.ensures ∙ c.in_ok-new_node.ensures ∙ ap (λ (z : Node). merged z c.args.window.now c.args.list.now c.args.next) c.root.ensures.root in
    subst (Exchanges c.args.tree.now c.args.window.now c.args.list.now c.args.next) (sym made) (λ g adds. merged_adds c.args.window.now c.args.list.now c.args.next g adds c.args.tree.now c.root.ensures.well_formed.distinct c.requires.stands.0)

pub returns-clause-steps : goal.returns-clause-steps
returns-clause-steps c =
    let made : c.of.result ≡ merged c.args.tree.now c.args.window.now c.args.list.now c.args.next =
    c.of.ensures ∙ c.in_ok-new_node.ensures ∙ ap (λ (z : Node). merged z c.args.window.now c.args.list.now c.args.next) c.root.ensures.root in
    subst (λ (z : Node). steps_of z + total (map steps_of c.args.window.now.kids) ≡ steps_of c.args.tree.now + length c.args.list.now) (sym made) (merged_steps c.args.window.now c.args.list.now c.args.next c.args.tree.now c.root.ensures.well_formed.distinct c.requires.stands.0)

pub returns-clause-nodes : goal.returns-clause-nodes
returns-clause-nodes c =
    let made : c.of.result ≡ merged c.args.tree.now c.args.window.now c.args.list.now c.args.next =
    c.of.ensures ∙ c.in_ok-new_node.ensures ∙ ap (λ (z : Node). merged z c.args.window.now c.args.list.now c.args.next) c.root.ensures.root in
    subst (λ (z : Node). nodes_of z ≤ nodes_of c.args.tree.now + length c.args.list.now) (sym made) (merged_nodes c.args.window.now c.args.list.now c.args.next c.args.tree.now c.root.ensures.well_formed.distinct)

pub returns-clause-top : goal.returns-clause-top
returns-clause-top c =
    let made : c.of.result ≡ merged c.args.tree.now c.args.window.now c.args.list.now c.args.next =
    c.of.ensures ∙ c.in_ok-new_node.ensures ∙ ap (λ (z : Node). merged z c.args.window.now c.args.list.now c.args.next) c.root.ensures.root in
    subst (λ (z : Node). greatest (ids_of z) < c.args.next + length c.args.list.now) (sym made) (merged_top c.args.window.now c.args.list.now c.args.next c.args.tree.now c.requires.fresh)
