use Rattle.std.proofs.Common.{◌≡◌, ◌<◌, ◌≤◌, ℕ, List, Option, Some, None, Err, length, slice_get, get_or, ap, subst, sym, ◌∙◌, arith}
use Rattle.std.specs.Prelude.{All}
use Rattle.bd_base.specs.declared.text_err.TextErr.{TextErr}
use Rattle.plan_calls.specs.Finding.{found}
use Rattle.plan_calls.specs.Listing.{Lists}
use Rattle.plan_calls.proofs.ListingLemmas.{get_there, answer_is, first_missing, listed_below}
use Rattle.plan_calls.proofs.listing.list_of.Goals as goal

pub returns-in-None-clause-listed : goal.returns-in-None-clause-listed
returns-in-None-clause-listed c =
    let d = c.args.domain.now in
    let p = c.args.problem.now in
    let actions = c.args.task.now.actions in
    let calls = c.args.calls.now in
    let call = c.index-calls-i.result in
    let at : slice_get calls c.loop-i.i ≡ Some call = get_there calls c.loop-i.i call call c.loop-i-test.true c.index-calls-i.is in
    let none : found actions call ≡ None =
    sym (answer_is actions calls c.loop-i.i call at) ∙ ap (λ (z : List (Option ℕ)). get_or z c.loop-i.i None) (sym (c.deref.ensures.value ∙ c.in_ok-found.ensures)) ∙ sym c.found_at.ensures ∙ c.in-None.is in
    subst (λ (e : TextErr). Lists d p actions calls (Err e)) (sym c.refused.ensures) (first_missing actions d p calls c.loop-i.i call c.loop-i.list.items at c.loop-i.invariant none)

pub returns-clause-in_range : goal.returns-clause-in_range
returns-clause-in_range c =
    let actions = c.args.task.now.actions in
    let le : length c.args.calls.now ≤ c.loop-i.i = omega arith in
    subst (λ (z : List ℕ). All (λ a. a < length actions) z) (sym c.of.ensures) (listed_below actions c.args.calls.now c.loop-i.i c.loop-i.list.items le c.loop-i.invariant)
