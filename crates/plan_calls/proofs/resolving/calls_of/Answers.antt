use Rattle.std.proofs.Common.{◌≡◌, ℕ, List, Option, None, true, get_or, ap, ◌∙◌}
use Rattle.pddl_types.specs.declared.calls.Call.{Call}
use Rattle.bd_ground.specs.Atoms.{is_among, number_of}
use Rattle.plan_calls.specs.Finding.{call_text, found}
use Rattle.plan_calls.proofs.ListingLemmas.{mapped-next, among_known}
use Rattle.plan_calls.proofs.resolving.calls_of.Goals as goal

pub loop-call-preserved : goal.loop-call-preserved
loop-call-preserved c =
    let texts = c.in_ok-texts.texts in
    let x = c.call-item.result in
    let name = call_text x in
    let text : c.deref-in-loop-call.result.now ≡ name = c.deref-in-loop-call.ensures.value ∙ c.in_ok-text.ensures in
    let among : is_among name texts ≡ true = among_known texts c.args.calls.now c.loop-call.call-index x c.in_ok-texts.ensures c.loop-call-test.true c.call-item.is in
    mapped-next (λ (y : Call). found c.args.task.now.actions y) c.args.calls.now c.loop-call.call-index x c.loop-call.list.items c.push.new.self.items c.found_in.result c.loop-call-test.true c.call-item.is c.loop-call.invariant c.in_ok-push.ensures.items
    (c.found_in.ensures (ap (λ (z : List ℕ). is_among z texts) text ∙ among)
    ∙ ap (λ (z : List ℕ). get_or c.deref.result.now (number_of texts z) None) text
    ∙ ap (λ (z : List (Option ℕ)). get_or z (number_of texts name) None) c.deref.ensures.value
    ∙ c.in_ok-places.ensures name among)
