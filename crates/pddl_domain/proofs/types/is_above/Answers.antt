use Rattle.std.proofs.Common.{◌≡◌, sym, ◌∙◌, None, arith}
use Rattle.pddl_domain.specs.Types.{parent_at}
use Rattle.pddl_domain.proofs.SkipLemmas.{ends_apart}
use Rattle.pddl_domain.proofs.types.is_above.Goals as goal

pub returns-then-top-i : goal.returns-then-top-i
returns-then-top-i c =
    let last : parent_at c.args.parents.now c.args.top ≡ None = sym c.parent_at.ensures ∙ c.in-None.is in
    let test = c.if-top-i.true in
    sym (ends_apart c.args.parents.now c.args.parents.now c.args.k c.args.top c.args.i c.requires.above last c.requires.root (λ q. omega (arith, test, q)))
