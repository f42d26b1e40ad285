use Rattle.std.proofs.Common.{ℕ, List, Option, sym, subst}
use Rattle.pddl_domain.specs.Skips.{AreSkips}
use Rattle.pddl_domain.proofs.SkipLemmas.{skips_given}
use Rattle.pddl_domain.proofs.types.with_parent.Goals as goal

pub invariant_of-result : goal.invariant_of-result
invariant_of-result c =
    let ps = c.args.types.parents.items in
    let skips = c.args.types.skips.items in
    let given = skips_given ps skips c.args.i c.args.k c.requires c.args.types.skipped in
    record { skipped = subst (λ (qs : List (Option ℕ)). AreSkips qs skips) (sym c.set_at-parents.ensures) given }
