use Rattle.std.proofs.Common.{rules, ◌≤◌, ℕ, ◌*◌, ap, subst}
use Rattle.plan_desk.proofs.Steps.{gives_more}
use Rattle.plan_desk.proofs.desk.Desk.give_more.Goals as goal

pub store-requires : goal.store-requires
store-requires c = (
  search rules,
  search rules,
  gives_more _ _ _ c.args.turn.now.me c.args._offer.now c.requires.busy _ (ap (λ (n : ℕ). 2 * n) c.requires.count.0) (subst (λ (n : ℕ). n ≤ 16_777_216) c.requires.count.0 c.requires.count.1) c.requires.legal,
)
