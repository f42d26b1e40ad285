use Rattle.bd_workers.proofs.KeptLemmas.{kept_with}
use Rattle.bd_workers.proofs.looking.searched.Goals as goal

pub returns-in_err-keep-clause-kept : goal.returns-in_err-keep-clause-kept
returns-in_err-keep-clause-kept c = kept_with c.args.view.now.task.now c.args.view.now.nodes c.args.kept.now c.args.sub.now c.in_ok-verdict.verdict _ c.keep.ensures c.requires.kept c.in_ok-verdict.ensures.kept c.in_ok-verdict.ensures.verdict

pub returns-clause-kept : goal.returns-clause-kept
returns-clause-kept c = kept_with c.args.view.now.task.now c.args.view.now.nodes c.args.kept.now c.args.sub.now c.in_ok-verdict.verdict _ c.keep.ensures c.requires.kept c.in_ok-verdict.ensures.kept c.in_ok-verdict.ensures.verdict
