use Rattle.std.proofs.Common.{◌≡◌, ◌+◌, take, sym, ap, ◌∙◌, subst, arith}
use Rattle.bd_tree.specs.declared.node.Node.{Node}
use Rattle.plan_core.specs.Core.{State, opened, replay, tree_after}
use Rattle.plan_core.specs.Replies.{IsApplicable}
use Rattle.plan_core.proofs.LawLemmas.{lawful_core, printable_at, entry_of, entry_then}
use Rattle.plan_core.proofs.judge.Core.at.Goals as goal

pub tree_after-requires : goal.tree_after-requires
tree_after-requires c =
    let fits = entry_of c.args.self.now c.args.place c.loop-offer.offer-index _ c.offer-item.result c.keeps.ensures c.history.ensures c.loop-offer-test.true c.offer-item.is in
    subst (λ (t : Node). IsApplicable c.offer-item.result (record { tree = t; next = c.loop-offer.next })) (sym c.loop-offer.invariant.tree)
    (subst (λ n. IsApplicable c.offer-item.result (record { tree = (replay (opened c.args.self.now.start) (take c.loop-offer.offer-index (take c.args.place c.history.result.now))).tree; next = n })) (sym c.loop-offer.invariant.next) fits.can)

pub overflow_add-next-in-loop-offer : goal.overflow_add-next-in-loop-offer
overflow_add-next-in-loop-offer c =
    let fits = entry_of c.args.self.now c.args.place c.loop-offer.offer-index _ c.offer-item.result c.keeps.ensures c.history.ensures c.loop-offer-test.true c.offer-item.is in
    omega (arith, fits.small, c.loop-offer.invariant.next, c.next-in-loop-offer.view_is, c.new_ids.ensures)

pub loop-offer-preserved : goal.loop-offer-preserved
loop-offer-preserved c =
    let entries = take c.args.place c.history.result.now in
    let state = replay (opened c.args.self.now.start) (take c.loop-offer.offer-index entries) in
    let offer = c.offer-item.result in
    let after = entry_then c.args.self.now.start entries c.loop-offer.offer-index offer c.loop-offer-test.true c.offer-item.is in
    let tree : c.in_ok-tree-2.tree ≡ tree_after offer state =
    c.in_ok-tree-2.ensures ∙ ap (λ (t : Node). tree_after offer (record { tree = t; next = c.loop-offer.next })) c.loop-offer.invariant.tree ∙ ap (λ n. tree_after offer (record { tree = state.tree; next = n })) c.loop-offer.invariant.next in
    record {
      tree = tree ∙ sym (ap (λ (s : State). s.tree) after);
      next = ap (λ n. n + c.new_ids.result) (c.next-in-loop-offer.view_is ∙ c.loop-offer.invariant.next) ∙ ap (λ n. state.next + n) c.new_ids.ensures ∙ sym (ap (λ (s : State). s.next) after);
    }

pub returns-clause-lawful : goal.returns-clause-lawful
returns-clause-lawful c = lawful_core _ c.keeps.ensures

pub returns-clause-printable : goal.returns-clause-printable
returns-clause-printable c = printable_at _ c.keeps.ensures c.args.place

pub returns-in_err-tree-clause-lawful : goal.returns-in_err-tree-clause-lawful
returns-in_err-tree-clause-lawful c = lawful_core _ c.keeps.ensures

pub returns-in_err-tree-clause-printable : goal.returns-in_err-tree-clause-printable
returns-in_err-tree-clause-printable c = printable_at _ c.keeps.ensures c.args.place

pub returns-in_err-tree-2-clause-lawful : goal.returns-in_err-tree-2-clause-lawful
returns-in_err-tree-2-clause-lawful c = lawful_core _ c.keeps.ensures

pub returns-in_err-tree-2-clause-printable : goal.returns-in_err-tree-2-clause-printable
returns-in_err-tree-2-clause-printable c = printable_at _ c.keeps.ensures c.args.place
