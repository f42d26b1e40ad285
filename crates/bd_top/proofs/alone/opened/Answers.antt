use Rattle.bd_top.proofs.RunLemmas.{no_fault, told_fault}
use Rattle.bd_top.proofs.alone.opened.Goals as goal

pub prove-unreachable-requires : goal.prove-unreachable-requires
prove-unreachable-requires c =
    no_fault c.args.task c.args.start c.requires.sound c.in-Err-Unsound.field-0-0
    (told_fault c.args.task c.args.start c.args.stop c.in-Err-Unsound.field-0 c.in-Err-Unsound.field-0-0 c.in-Err-Unsound.field-0-is c.in-Err-Unsound.ensures.begins)
