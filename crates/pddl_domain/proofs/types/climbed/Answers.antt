use Rattle.std.proofs.Common.{ℕ, List, Option, sym, subst}
use Rattle.pddl_domain.specs.Skips.{Leads, AreSkips}
use Rattle.pddl_domain.proofs.SkipLemmas.{leads_self, leads_all, skips_set}
use Rattle.pddl_domain.proofs.types.climbed.Goals as goal

pub loop-step-init : goal.loop-step-init
loop-step-init c = (leads_self c.args.parents.now c.args.start, c.requires)

pub returns-in-None-next_up-clause-above : goal.returns-in-None-next_up-clause-above
returns-in-None-next_up-clause-above c =
    let ps = c.args.parents.now in
    leads_all ps c.args.start c.loop-step.at c.in-Some.next c.loop-step.invariant.0 c.in-Some.ensures

pub loop-step-preserved : goal.loop-step-preserved
loop-step-preserved c =
    let ps = c.args.parents.now in
    let at = c.loop-step.at in
    let far = c.in-Some-next_up.far in
    let up : Leads ps at far = leads_all ps at c.in-Some.next far c.in-Some.ensures c.in-Some-next_up.ensures in
    let more : AreSkips ps c.set_at-skips.result.items = subst (λ (xs : List (Option ℕ)). AreSkips ps xs) (sym c.set_at-skips.ensures) (skips_set ps c.loop-step.skips.items at far up c.loop-step.invariant.1) in
    (leads_all ps c.args.start at far c.loop-step.invariant.0 up, more)
