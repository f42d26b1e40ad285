use Rattle.std.proofs.Common.{◌≡◌, ◌↔◌, ℕ, ◌<◌, ◌++◌, length, map, take, drop, below_more, refl, sym, ap, ◌∙◌, subst, arith}
use Rattle.std.specs.List.{enumerate_from}
use Rattle.std.proofs.lemmas.Bool.{both_ways, eqb-true, eqb-false}
use Rattle.bd_tree.specs.Deciding.{placed, nodes_in, StartsAt, Remains}
use Rattle.bd_tree.specs.Linearisation.{IsLinearisation, LinearisesKids}
use Rattle.bd_tree.specs.Tree.{nodes_of, steps_of, total}
use Rattle.bd_tree.proofs.BoundLemmas.{kids_within, has_nodes, steps_within}
use Rattle.bd_tree.proofs.DecidingLemmas.{lin_length, block_whole, nodes_numbered, none_answer, step_answer, block_answer, told_same, none_placed, some_placed, kids_start, start_linearises, starts_within, parts_split, parts_nodes, refused, too_short, no_front, not_first, rest_tells, placed-append}
use Rattle.bd_tree.proofs.RefusedLemmas.{refused_now, refused_more, remains_next, remains_all, none_refused}
use Rattle.bd_tree.proofs.deciding.+deciding.Goals as goal
use Rattle.bd_tree.proofs.deciding.+deciding.Goals.{kids_linearise-In_ok-insert}

pub kids_linearise-returns-then-is_empty-clause-answer :
    goal.kids_linearise-returns-then-is_empty-clause-answer
kids_linearise-returns-then-is_empty-clause-answer t c =
    none_answer c.args.asked.now.order.now (placed c.args.rest.now) c.args.back.now c.is_empty-then-is_empty.result
    (none_placed c.args.rest.now (eqb-true _ _ (sym c.is_empty.ensures ∙ c.if-is_empty.true)))
    c.is_empty-then-is_empty.ensures

pub kids_linearise-returns-then-branch-clause-answer :
    goal.kids_linearise-returns-then-branch-clause-answer
kids_linearise-returns-then-branch-clause-answer t c =
    refused _ (refused_now c.args.asked.now.kids.now c.args.asked.now.list.now (placed c.args.rest.now) c.args.back.now c.requires.remains c.args.asked.now.order.now c.args.refused.now c.requires.refused (c.in_ok-is_refused.ensures c.if-branch.true))

pub kids_linearise-returns-then-branch-2-clause-answer :
    goal.kids_linearise-returns-then-branch-2-clause-answer
kids_linearise-returns-then-branch-2-clause-answer t c =
    let starts : StartsAt c.args.asked.now.order.now (placed c.args.rest.now) c.args.back.now c.loop-at.at = c.in_ok-starts_at.ensures.answer.0 c.if-branch-2.true in
    ((λ _. start_linearises _ _ _ _ starts), (λ _. refl))

pub kids_linearise-loop-at-preserved : goal.kids_linearise-loop-at-preserved
kids_linearise-loop-at-preserved t c = record {
  refused = c.in_ok-starts_at.ensures.refused;
  none = below_more (λ place. StartsAt c.args.asked.now.order.now (placed c.args.rest.now) c.args.back.now place → ⊥) c.loop-at.at c.loop-at.invariant.none
      (λ s. both_ways _ c.if-branch-2.false (c.in_ok-starts_at.ensures.answer.1 s));
}

-- no kid may come next, so there is no linearisation
none_next : {t : ℕ} (c : kids_linearise-In_ok-insert t) → LinearisesKids c.args.asked.now.order.now (placed c.args.rest.now) c.args.back.now → ⊥
none_next c of =
    let some : 0 < length (placed c.args.rest.now) = omega (arith, some_placed c.args.rest.now, eqb-false _ _ (sym c.is_empty.ensures ∙ c.if-is_empty.false)) in
    let s = kids_start _ _ _ some of in
    c.loop-at.invariant.none s.0 (omega (arith, some_placed c.args.rest.now, starts_within _ _ _ s.0 s.1, c.loop-at-test.false)) s.1

pub kids_linearise-returns-clause-answer : goal.kids_linearise-returns-clause-answer
kids_linearise-returns-clause-answer t c = refused _ (none_next c)

pub kids_linearise-returns-clause-refused : goal.kids_linearise-returns-clause-refused
kids_linearise-returns-clause-refused t c =
    refused_more c.args.asked.now.kids.now c.args.asked.now.list.now (placed c.args.rest.now) c.args.back.now c.requires.remains c.args.asked.now.order.now c.loop-at.refused c.loop-at.invariant.refused
    c.insert.new.self c.in_ok-set_of.field-0.items c.in_ok-set_of.ensures c.in_ok-insert.ensures (none_next c)

pub linearises-steps-requires : goal.linearises-steps-requires
linearises-steps-requires t c = omega (arith, c.requires, steps_within c.args.node.now)

pub linearises-returns-then-steps-list : goal.linearises-returns-then-steps-list
linearises-returns-then-steps-list t c =
    refused _ (λ of. c.if-steps-list.true (c.steps.ensures ∙ sym (lin_length c.args.node.now c.args.list.now of)))

pub linearises-places-requires : goal.linearises-places-requires
linearises-places-requires t c =
    omega (arith, c.requires, ap length c.as_slice.ensures, kids_within c.args.node.now c.in-Block.id c.in-Block.kids c.in-Block.order c.in-Block.is)

pub linearises-kids_linearise-requires : goal.linearises-kids_linearise-requires
linearises-kids_linearise-requires t c =
    let list = c.args.list.now in
    let kids = c.as_slice-in-Block.result.now in
    let rest : placed c.deref.result.now ≡ enumerate_from 0 kids = ap placed c.deref.ensures.value ∙ c.in_ok-rest-in-Block.ensures ∙ ap (enumerate_from 0) (c.as_slice.ensures ∙ sym c.as_slice-in-Block.ensures) in
    let nodes : nodes_in (placed c.deref.result.now) ≡ total (map nodes_of kids) = ap nodes_in rest ∙ nodes_numbered 0 kids in
    let whole = block_whole c.args.node.now c.in-Block.id c.in-Block.kids kids c.in-Block.order c.in-Block.is c.as_slice-in-Block.ensures in
    let long : steps_of c.args.node.now ≡ length list = sym c.steps.ensures ∙ c.if-steps-list.false in
    let remains : Remains kids list (placed c.deref.result.now) list = remains_all kids list c.args.node.now c.in-Block.id c.in-Block.kids c.in-Block.order _ c.in-Block.is c.as_slice-in-Block.ensures rest c.requires long in
    (omega (arith, c.decreases, nodes, whole), (remains, none_refused kids c.in-Block.order list c.new-refused.result c.new-refused.ensures))

pub linearises-returns-in-Step : goal.linearises-returns-in-Step
linearises-returns-in-Step t c =
    let same = step_answer c.args.node.now c.in-Step.id c.in-Step.action c.args.list.now c.in-Step.is in
    ((λ e. same.0 (c.is_only.ensures.0 e)), (λ of. c.is_only.ensures.1 (same.1 of)))

pub linearises-returns-in_ok-rest-in-Block : goal.linearises-returns-in_ok-rest-in-Block
linearises-returns-in_ok-rest-in-Block t c =
    let rest : placed c.deref.result.now ≡ enumerate_from 0 c.in-Block.kids = ap placed c.deref.ensures.value ∙ c.in_ok-rest-in-Block.ensures ∙ ap (enumerate_from 0) c.as_slice.ensures in
    told_same c.kids_linearise.result (LinearisesKids c.in-Block.order (placed c.deref.result.now) c.args.list.now) (IsLinearisation c.args.node.now c.args.list.now)
    (subst (λ z. LinearisesKids c.in-Block.order z c.args.list.now ↔ IsLinearisation c.args.node.now c.args.list.now) (sym rest)
    (block_answer c.args.node.now c.in-Block.id c.in-Block.kids c.in-Block.order c.args.list.now c.in-Block.is))
    c.kids_linearise.ensures.answer

pub starts_at-steps-steps-requires : goal.starts_at-steps-steps-requires
starts_at-steps-steps-requires t c =
    omega (arith, c.requires.remains.small, parts_nodes c.args.rest.now c.split_at.result.0.now c.in-Some.after.now c.in-Some.first.now c.args.at c.requires.within c.split_at.ensures.front (sym c.split_at.ensures.back ∙ c.in-Some.ensures.cases.0), steps_within c.in-Some.first.now.1.now)

pub starts_at-returns-then-steps-back-clause-answer : goal.starts_at-returns-then-steps-back-clause-answer
starts_at-returns-then-steps-back-clause-answer t c = refused _ (too_short c.args.asked.now.order.now c.args.back.now c.args.rest.now c.split_at.result.0.now c.in-Some.after.now c.in-Some.first.now c.args.at c.requires.within c.split_at.ensures.front (sym c.split_at.ensures.back ∙ c.in-Some.ensures.cases.0) (omega (arith, c.steps-steps.ensures, c.if-steps-back.true)))

pub starts_at-linearises-requires : goal.starts_at-linearises-requires
starts_at-linearises-requires t c =
    let nodes = parts_nodes c.args.rest.now c.split_at.result.0.now c.in-Some.after.now c.in-Some.first.now c.args.at c.requires.within c.split_at.ensures.front (sym c.split_at.ensures.back ∙ c.in-Some.ensures.cases.0) in
    (omega (arith, c.decreases, nodes), omega (arith, c.requires.remains.small, nodes))

pub starts_at-returns-then-not-fits-clause-answer : goal.starts_at-returns-then-not-fits-clause-answer
starts_at-returns-then-not-fits-clause-answer t c =
    let front : c.split_at-2.result.0.now ≡ take (steps_of c.in-Some.first.now.1.now) c.args.back.now = c.split_at-2.ensures.front ∙ ap (λ z. take z c.args.back.now) c.steps-steps.ensures in
    refused _ (no_front c.args.asked.now.order.now c.args.back.now c.args.rest.now c.split_at.result.0.now c.in-Some.after.now c.in-Some.first.now c.args.at c.requires.within c.split_at.ensures.front (sym c.split_at.ensures.back ∙ c.in-Some.ensures.cases.0)
    (λ lin. both_ways _ c.if-not-fits.true (c.in_ok-fits.ensures.1 (subst (IsLinearisation c.in-Some.first.now.1.now) (sym front) lin))))

pub starts_at-returns-then-not-is_first-clause-answer : goal.starts_at-returns-then-not-is_first-clause-answer
starts_at-returns-then-not-is_first-clause-answer t c =
    refused _ (not_first c.args.asked.now.order.now c.args.back.now c.args.rest.now c.split_at.result.0.now c.in-Some.after.now c.in-Some.first.now c.args.at c.requires.within c.split_at.ensures.front (sym c.split_at.ensures.back ∙ c.in-Some.ensures.cases.0)
    (λ first. both_ways _ c.if-not-is_first.true (c.is_first.ensures.1 first)))

pub starts_at-kids_linearise-requires : goal.starts_at-kids_linearise-requires
starts_at-kids_linearise-requires t c =
    let kid = c.in-Some.first.now in
    let nodes = parts_nodes c.args.rest.now c.split_at.result.0.now c.in-Some.after.now c.in-Some.first.now c.args.at c.requires.within c.split_at.ensures.front (sym c.split_at.ensures.back ∙ c.in-Some.ensures.cases.0) in
    let left : placed c.deref.result.now ≡ placed c.split_at.result.0.now ++ placed c.in-Some.after.now = ap placed (c.deref.ensures.value ∙ c.in_ok-left.ensures) ∙ placed-append c.split_at.result.0.now c.in-Some.after.now in
    let others : c.split_at-2.result.1.now ≡ drop (steps_of kid.1.now) c.args.back.now = c.split_at-2.ensures.back ∙ ap (λ z. drop z c.args.back.now) c.steps-steps.ensures in
    let one : 0 < nodes_of kid.1.now = has_nodes kid.1.now in
    let fewer : nodes_in (placed c.deref.result.now) ≡ nodes_in (placed c.split_at.result.0.now ++ placed c.in-Some.after.now) = ap nodes_in left in
    let remains : Remains c.args.asked.now.kids.now c.args.asked.now.list.now (placed c.deref.result.now) c.split_at-2.result.1.now =
    subst (λ z. Remains c.args.asked.now.kids.now c.args.asked.now.list.now z c.split_at-2.result.1.now) (sym left)
    (remains_next c.args.asked.now.kids.now c.args.asked.now.list.now (placed c.args.rest.now) c.args.back.now c.requires.remains
    (placed c.split_at.result.0.now) (placed c.in-Some.after.now) (kid.0, kid.1.now) c.split_at-2.result.1.now
    (parts_split c.args.rest.now c.split_at.result.0.now c.in-Some.after.now c.in-Some.first.now c.args.at c.requires.within c.split_at.ensures.front (sym c.split_at.ensures.back ∙ c.in-Some.ensures.cases.0)) others) in
    (omega (arith, c.decreases, nodes, fewer, one), (remains, c.requires.refused))

pub starts_at-returns-clause-answer : goal.starts_at-returns-clause-answer
starts_at-returns-clause-answer t c =
    let kid = c.in-Some.first.now.1.now in
    let order = c.args.asked.now.order.now in
    let list = c.args.back.now in
    let front : c.split_at-2.result.0.now ≡ take (steps_of kid) list = c.split_at-2.ensures.front ∙ ap (λ z. take z list) c.steps-steps.ensures in
    let back : c.split_at-2.result.1.now ≡ drop (steps_of kid) list = c.split_at-2.ensures.back ∙ ap (λ z. drop z list) c.steps-steps.ensures in
    let left : placed c.deref.result.now ≡ placed c.split_at.result.0.now ++ placed c.in-Some.after.now = ap placed (c.deref.ensures.value ∙ c.in_ok-left.ensures) ∙ placed-append c.split_at.result.0.now c.in-Some.after.now in
    let begins : IsLinearisation kid (take (steps_of kid) list) = subst (IsLinearisation kid) front (c.in_ok-fits.ensures.0 c.if-not-fits.false) in
    told_same c.kids_linearise.result (LinearisesKids order (placed c.deref.result.now) c.split_at-2.result.1.now) (StartsAt order (placed c.args.rest.now) list c.args.at)
    (subst (λ z. LinearisesKids order z c.split_at-2.result.1.now ↔ StartsAt order (placed c.args.rest.now) list c.args.at) (sym left)
    (subst (λ z. LinearisesKids order (placed c.split_at.result.0.now ++ placed c.in-Some.after.now) z ↔ StartsAt order (placed c.args.rest.now) list c.args.at) (sym back)
    (rest_tells c.args.asked.now.order.now c.args.back.now c.args.rest.now c.split_at.result.0.now c.in-Some.after.now c.in-Some.first.now c.args.at c.requires.within c.split_at.ensures.front (sym c.split_at.ensures.back ∙ c.in-Some.ensures.cases.0) (c.is_first.ensures.0 c.if-not-is_first.false) begins)))
    c.kids_linearise.ensures.answer
