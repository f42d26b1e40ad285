use Rattle.std.proofs.Common.{ℕ, ◌∙◌, List, ap, map, sym, subst, length, arith}
use Rattle.std.specs.List.{enumerate_from}
use Rattle.bd_links.specs.Child.{Child}
use Rattle.bd_links.specs.Sound.{are_below, child_of}
use Rattle.bd_links.proofs.Steps.{all-drop-next}
use Rattle.bd_tree.specs.declared.node.Node.{Node}
use Rattle.bd_tree.specs.Tree.{nodes_of, total}
use Rattle.bd_tree.proofs.NodeLemmas.{nodes_of-Block}
use Rattle.bd_subtask.specs.Certain.{certain_at_kid, kids_of}
use Rattle.bd_subtask.specs.Level.{AreLevels, beside_from, with_others}
use Rattle.bd_subtask.specs.Subtask.{outside_of}
use Rattle.bd_subtask.proofs.Lists.{map_numbered}
use Rattle.bd_subtask.proofs.Leading.{level_is, turn_distinct, turn_leads}
use Rattle.bd_subtask.proofs.Levels.{all_here, kid_within, levels_push}
use Rattle.bd_subtask.proofs.Nodes.{kids_below}
use Rattle.bd_subtask.proofs.posing.«+put_levels».Goals as goal

pub loop-kid-init : goal.loop-kid-init
loop-kid-init t c =
    let task = c.args.task.now in
    let root = c.args.tree.now in
    let b = c.in-Block in
    let l = c.in_ok-level-in-Block in
    record {
      at = search;
      levels = subst (AreLevels task root) (sym c.in_ok-push-in-Block.ensures.items)
          (levels_push task root c.args.levels.now.items l.level c.requires.levels
          (level_is task root c.args.node.now b.id b.kids b.order b.is c.args.sure.now c.args.out.now c.requires.leads c.requires.distinct
          c.root-root.ensures.well_formed.rooted c.iter-out.ensures.rising l.level l.ensures.block l.ensures.node _
          (c.deref.ensures.value ∙ c.in_ok-parts-in-Block.ensures ∙ ap (map (child_of task.actions)) c.as_slice.ensures)
          l.ensures.kept (l.ensures.certain ∙ c.in_ok-certain-in-Block.ensures) (l.ensures.mentioned ∙ c.in_ok-mentioned-in-Block.ensures)));
      below = kids_below (length task.actions) c.args.node.now b.id b.kids _ b.order b.is c.as_slice-kid-items.ensures c.requires.below;
    }

pub put_levels-requires : goal.put_levels-requires
put_levels-requires t c =
    let b = c.in-Block in
    let actions = c.args.task.now.actions in
    let sure = c.args.sure.now in
    let out = c.args.out.now in
    let below = all_here (are_below (length actions)) c.as_slice-kid-items.result.now c.loop-kid.kid-index c.kid-item.result c.loop-kid-test.true c.kid-item.is c.loop-kid.invariant.below in
    let distinct = turn_distinct c.args.task.now c.args.tree.now c.args.node.now b.id b.kids b.order b.is sure out c.requires.leads c.requires.distinct
    c.as_slice-kid-items.result.now c.as_slice-kid-items.ensures c.loop-kid.kid-index c.kid-item.result c.loop-kid-test.true c.kid-item.is in
    let leads = turn_leads c.args.task.now c.args.tree.now c.args.node.now b.id b.kids b.order b.is sure out c.requires.leads c.requires.distinct
    c.as_slice-kid-items.result.now c.as_slice-kid-items.ensures c.loop-kid.kid-index c.kid-item.result c.loop-kid-test.true c.kid-item.is
    c.in_ok-inner-in-Block.inner c.in_ok-around-in-Block.around
    (c.in_ok-inner-in-Block.ensures
    ∙ ap (λ (z : List Child). certain_at_kid b.order (enumerate_from 0 z) sure c.loop-kid.j) (c.deref-in-loop-kid.ensures.value ∙ c.in_ok-parts-in-Block.ensures ∙ ap (map (child_of actions)) c.as_slice.ensures)
    ∙ ap (certain_at_kid b.order (kids_of actions b.kids) sure) c.loop-kid.invariant.at)
    (c.in_ok-around-in-Block.ensures
    ∙ ap (λ (z : List (List ℕ)). with_others c.loop-kid.j out (enumerate_from 0 z)) (c.as_slice-sets.ensures.value ∙ c.in_ok-others-in-Block.ensures ∙ ap (map (outside_of actions b.id)) c.as_slice-sons.ensures)
    ∙ ap (with_others c.loop-kid.j out) (sym (map_numbered (outside_of actions b.id) 0 b.kids))
    ∙ ap (λ (j : ℕ). beside_from actions b.id j out (enumerate_from 0 b.kids)) c.loop-kid.invariant.at) in
    let whole = ap nodes_of b.is ∙ nodes_of-Block b.id b.kids b.order in
    let within = kid_within nodes_of c.as_slice-kid-items.result.now c.loop-kid.kid-index c.kid-item.result c.loop-kid-test.true c.kid-item.is in
    (omega (arith, c.decreases, whole, within, ap (λ (z : List Node). total (map nodes_of z)) c.as_slice-kid-items.ensures), (below, (distinct, (leads, c.loop-kid.invariant.levels))))

pub loop-kid-preserved : goal.loop-kid-preserved
loop-kid-preserved t c = record {
  at = omega (arith, c.loop-kid.invariant.at);
  levels = c.in_ok-put_levels-in-Block.ensures;
  below = all-drop-next (are_below (length c.args.task.now.actions)) c.as_slice-kid-items.result.now c.loop-kid.kid-index c.kid-item.result c.loop-kid-test.true c.kid-item.is c.loop-kid.invariant.below;
}
