use Rattle.plan_loosen.proofs.FlatLemmas.{no_step, no_goal}
use Rattle.plan_improve.proofs.opening.deordered.Goals as goal

pub prove-unreachable-requires : goal.prove-unreachable-requires
prove-unreachable-requires c =
    no_step c.args.task.now c.args.list.now c.requires.in_range c.requires.short c.requires.valid c.deorder.result c.in-Err-Step.field-0 _ _ c.in-Err-Step.is c.in-Err-Step.field-0-is c.deorder.ensures.answer

pub prove-unreachable-requires-in-Err-Goal : goal.prove-unreachable-requires-in-Err-Goal
prove-unreachable-requires-in-Err-Goal c =
    no_goal c.args.task.now c.args.list.now c.requires.in_range c.requires.short c.requires.valid c.deorder.result c.in-Err-Goal.field-0 _ c.in-Err-Goal.is c.in-Err-Goal.field-0-is c.deorder.ensures.answer
