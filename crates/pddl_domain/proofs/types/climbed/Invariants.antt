use Rattle.pddl_domain.specs.Skips.{Leads, AreSkips}
use Rattle.pddl_domain.proofs.types.climbed.Given as goal

abbrev pub invariant-loop-step : goal.invariant-loop-step
invariant-loop-step l = Leads l.parents l.start l.at × AreSkips l.parents l.skips.items
