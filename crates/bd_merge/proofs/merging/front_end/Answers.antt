use Rattle.std.proofs.Common.{◌≡◌, ◌-◌, length, map, ap, ◌∙◌, subst, rules}
use Rattle.bd_base.specs.Pairs.{total_order}
use Rattle.bd_tree.specs.Tree.{id_of}
use Rattle.bd_merge.specs.FrontEnd.{EndsFronts}
use Rattle.bd_merge.proofs.TurnLemmas.{ends_early, ends_late}
use Rattle.bd_merge.proofs.merging.front_end.Goals as goal

pub returns-in-Early : goal.returns-in-Early
returns-in-Early c =
    let total : c.args.order.now ≡ total_order (length c.args.kids.now) = c.is_total.ensures.0 (cc) in
    ends_early c.args.window.now _ _ _ c.span_of-span.result.past c.of_nodes.result (c.of_nodes.ensures ∙ ap (map id_of) c.as_slice.ensures) total c.span_of-span.ensures c.in-Early.is

pub returns-in-Late : goal.returns-in-Late
returns-in-Late c =
    let total : c.args.order.now ≡ total_order (length c.args.kids.now) = c.is_total.ensures.0 (cc) in
    let end : c.span_of-span.result.past - 1 ≡ c.saturating_sub.result = search rules in
    subst (EndsFronts c.args.window.now c.args.order.now c.args.kids.now) end
    (ends_late c.args.window.now _ _ c.span_of-span.result.first _ c.of_nodes.result (c.of_nodes.ensures ∙ ap (map id_of) c.as_slice.ensures) total c.span_of-span.ensures c.in-Late.is)
