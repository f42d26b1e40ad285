use Rattle.bd_pieces.proofs.SubtaskLemmas.{verdict_tells}
use Rattle.bd_pieces.proofs.searching.search.Goals as goal

pub returns-clause-verdict : goal.returns-clause-verdict
returns-clause-verdict c =
    verdict_tells c.args.task.now c.args.sub.now c.in_ok-compiled.compiled c.args.nodes c.in_ok-kind.kind c.in_ok-compiled.ensures.compiled c.in_ok-compiled.ensures.tells c.in_ok-kind.ensures
