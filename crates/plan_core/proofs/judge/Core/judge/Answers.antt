use Rattle.std.proofs.Common.{◌≡◌, true, rules}
use Rattle.plan_core.specs.Core.{is_closed}
use Rattle.plan_core.proofs.AcceptLemmas.{closed_refuses}
use Rattle.plan_core.proofs.judge.Core.judge.Goals as goal

pub returns-then-closed-clause-judges : goal.returns-then-closed-clause-judges
returns-then-closed-clause-judges c =
    let core = c.args.self.now in
    let told : is_closed core.stop core.history ≡ true = search rules in
    closed_refuses core c.args.offer.now _ _ (c.replaced.ensures, search rules, told)
