use Rattle.std.proofs.Common.{sym, ◌∙◌}
use Rattle.pddl_form.proofs.PartLemmas.{one_part, word_is_one, list_is_one, no_part, and_parts}
use Rattle.pddl_form.proofs.parts.+parts_into.Goals as goal

pub returns-in_ok-push-in-Word : goal.returns-in_ok-push-in-Word
returns-in_ok-push-in-Word t c = one_part _ _ c.args.tree c.in_ok-push-in-Word.ensures.items (word_is_one c.args.tree.now _ _ c.in-Word.is)

pub returns-in-None : goal.returns-in-None
returns-in-None t c = no_part _ c.args.tree.now _ _ c.as_slice.result.now c.in-List.is c.as_slice.ensures c.in-None.ensures.cases

pub returns-after-loop-item : goal.returns-after-loop-item
returns-after-loop-item t c = and_parts _ _ c.loop-item.item-index c.args.tree.now _ _ c.as_slice.result.now c.in-Some.head.now c.in-Some.rest.now c.loop-item.invariant c.loop-item-test.false c.in-List.is c.as_slice.ensures c.in-Some.ensures.cases.0 (sym c.is_word.ensures ∙ c.if-is_word.true)

pub returns-in_ok-push-in-Some : goal.returns-in_ok-push-in-Some
returns-in_ok-push-in-Some t c = one_part _ _ c.args.tree c.in_ok-push-in-Some.ensures.items (list_is_one c.args.tree.now _ _ c.as_slice.result.now c.in-Some.head.now c.in-Some.rest.now c.in-List.is c.as_slice.ensures c.in-Some.ensures.cases.0 (sym c.is_word.ensures ∙ c.if-is_word.false))
