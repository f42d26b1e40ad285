use Rattle.std.proofs.Common.{refl}
use Rattle.bd_gen.specs.Errands.{plan_of, problem_of}
use Rattle.bd_gen.specs.declared.sample.TheConstants.{DOMAIN}
use Rattle.bd_top.proofs.BenchLemmas.{ends_benched}
use Rattle.bd_top.proofs.DeorderLemmas.{ends_deordered, known_plan, plan_known}
use Rattle.bd_top.proofs.EndLemmas.{ends}
use Rattle.bd_top.proofs.ImproveLemmas.{ends_improved, facts_few, few_facts}
use Rattle.bd_top.proofs.TextsLemmas.{ends_checked, noted, refused_ends}
use Rattle.bd_top.proofs.alone.run_words.Goals as goal

pub returns-in-Ready-clause-ends : goal.returns-in-Ready-clause-ends
returns-in-Ready-clause-ends g c = ends _ _ _ c.in-Ready.script c.in-Ready.ensures.prepared _ _ _ _ c.run_script.ensures

pub returns-in-Valid-clause-ends : goal.returns-in-Valid-clause-ends
returns-in-Valid-clause-ends g c = ends_checked _ _ _ c.in-Valid.cost _ _ _ _ c.in-Valid.ensures.prepared.0 c.in-Valid.ensures.prepared.1 refl c.put_cost.ensures

pub put_loosened-requires : goal.put_loosened-requires
put_loosened-requires g c = plan_known _ _ _ c.in-Plan.task c.in-Plan.plan c.in-Plan.ensures.prepared.1

pub returns-in-Plan-clause-ends : goal.returns-in-Plan-clause-ends
returns-in-Plan-clause-ends g c =
    ends_deordered _ _ _ c.in-Plan.task c.in-Plan.plan c.in-Plan.ensures.prepared.1 c.in-Plan.span c.in-Plan.ensures.prepared.0 _ _ refl _ _ c.put_loosened.ensures

pub returns-in-Refused-clause-ends : goal.returns-in-Refused-clause-ends
returns-in-Refused-clause-ends g c =
    refused_ends _ _ _ _ _ c.in-Refused.line refl (noted _ c.as_slice.result.now c.in-Refused.line _ c.as_slice.ensures c.put.ensures.ok c.put.ensures.err c.put.ensures.cause) c.in-Refused.status c.in-Refused.ensures.prepared

pub put_improved-requires-clause-known : goal.put_improved-requires-clause-known
put_improved-requires-clause-known g c = plan_known _ _ _ c.in-Improvable.task c.in-Improvable.plan c.in-Improvable.ensures.prepared.1

pub put_improved-requires-clause-few : goal.put_improved-requires-clause-few
put_improved-requires-clause-few g c = facts_few _ _ _ c.in-Improvable.task c.in-Improvable.plan c.in-Improvable.ensures.prepared.1

pub put_improved-requires-clause-ranges : goal.put_improved-requires-clause-ranges
put_improved-requires-clause-ranges g c = c.in-Improvable.ensures.prepared.2

pub returns-in-Improvable-clause-ends : goal.returns-in-Improvable-clause-ends
returns-in-Improvable-clause-ends g c =
    ends_improved _ _ _ c.in-Improvable.task c.in-Improvable.plan c.in-Improvable.ensures.prepared.1 c.in-Improvable.numbers c.in-Improvable.ensures.prepared.0 _ _ refl _ _ c.put_improved.ensures

pub put_summary-requires-clause-known : goal.put_summary-requires-clause-known
put_summary-requires-clause-known g c =
    let h = c.in-Errands.ensures.prepared in
    known_plan DOMAIN.now (problem_of h.size) (plan_of h.size) c.in-Errands.task c.in-Errands.plan h.holds

pub put_summary-requires-clause-few : goal.put_summary-requires-clause-few
put_summary-requires-clause-few g c =
    let h = c.in-Errands.ensures.prepared in
    few_facts DOMAIN.now (problem_of h.size) (plan_of h.size) c.in-Errands.task c.in-Errands.plan h.holds

pub returns-in-Errands-clause-ends : goal.returns-in-Errands-clause-ends
returns-in-Errands-clause-ends g c = ends_benched _ _ _ c.in-Errands.task c.in-Errands.plan c.in-Errands.ensures.prepared _ _ refl _ _ c.put_summary.ensures
