use Rattle.std.proofs.Common.{ℕ, List, unwrap_or, sym, subst}
use Rattle.bd_tree.specs.Chain.{chain_of}
use Rattle.plan_core.specs.Law.{MayBegin}
use Rattle.bd_top.proofs.RunLemmas.{may_begin}
use Rattle.bd_top.proofs.alone.run_script.Goals as goal

pub begun-core-requires-clause-may : goal.begun-core-requires-clause-may
begun-core-requires-clause-may g c =
    subst (λ (plan : List ℕ). MayBegin c.args.script.task (unwrap_or c.args.script.start (chain_of plan))) (sym c.as_slice.ensures) (may_begin c.args.script c.requires)
