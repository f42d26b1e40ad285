use Rattle.std.proofs.Common.{ℕ, List, subst}
use Rattle.plan_loosen.specs.Loosened.{IsLoosened}
use Rattle.bd_top.proofs.deorder.put_loosened.Goals as goal

pub returns-in-Ok : goal.returns-in-Ok
returns-in-Ok g c =
    c.put_tree.ensures c.args.task c.args.plan c.args.span (record {
      core = c.in-Ok.core;
      recorded = c.tight_record.ensures.recorded;
      loosened = subst (λ (l : List ℕ). IsLoosened c.args.task l c.args.span c.in-Ok.core) c.as_slice.ensures c.in-Ok.ensures;
    })
