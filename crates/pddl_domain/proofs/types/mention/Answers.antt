use Rattle.std.proofs.Common.{◌≡◌, List, [], ◌∷◌, ◌++◌, Option, None, ℕ, sym, subst}
use Rattle.pddl_domain.specs.Skips.{AreSkips}
use Rattle.pddl_domain.proofs.SkipLemmas.{skips_pushed}
use Rattle.pddl_domain.proofs.types.mention.Goals as goal

pub invariant_of-types : goal.invariant_of-types
invariant_of-types c =
    let ps = c.args.types.parents.items in
    let skips = c.args.types.skips.items in
    let a : c.push.new.self.items ≡ ps ++ None ∷ [] = c.in_ok-push-in-None.ensures.items in
    let b : c.push-in-None.new.self.items ≡ skips ++ None ∷ [] = c.in_ok-push-in-None-2.ensures.items in
    record { skipped = subst (λ (qs : List (Option ℕ)). AreSkips qs c.push-in-None.new.self.items) (sym a) (subst (λ (ls : List (Option ℕ)). AreSkips (ps ++ None ∷ []) ls) (sym b) (skips_pushed ps skips c.args.types.skipped)) }
