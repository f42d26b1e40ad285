use Rattle.std.proofs.Common.{refl}
use Rattle.seq_check.proofs.BreakLemmas.{unbroken_is, valid_from_answer, ok_from_valid}
use Rattle.seq_check.proofs.judging.validate.Goals as goal

pub returns-clause-valid : goal.returns-clause-valid
returns-clause-valid c = valid_from_answer c.args.task.now c.args.list.now c.requires.in_range _ _ refl c.judge.ensures.answer

pub returns-clause-complete : goal.returns-clause-complete
returns-clause-complete c = ok_from_valid c.args.task.now c.args.list.now c.requires.in_range _ _ refl c.judge.ensures.answer

pub returns-clause-unbroken : goal.returns-clause-unbroken
returns-clause-unbroken c = unbroken_is c.args.task.now c.args.list.now c.requires.in_range
