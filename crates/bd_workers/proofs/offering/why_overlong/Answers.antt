use Rattle.std.proofs.Common.{arith, rules}
use Rattle.plan_core.proofs.CoreLemmas.{steps_in}
use Rattle.bd_workers.proofs.DoneLemmas.{known, cheaper}
use Rattle.bd_workers.proofs.offering.why_overlong.Goals as goal

pub returns-clause-why : goal.returns-clause-why
returns-clause-why c = (
  search rules,
  known c.args.core.now c.keeps.ensures c.args.window.now c.requires.stands c.args.list.now c.requires.solves,
  c.requires.stands,
  cheaper c.args.core.now c.keeps.ensures c.args.window.now c.requires.stands c.args.list.now c.requires.solves,
  omega (arith, c.steps_beside.ensures.steps, steps_in c.args.core.now c.args.window.now c.args.list.now c.keeps.ensures.room c.requires.stands),
  omega (arith, c.requires.long),
)
