use Rattle.bd_top.proofs.RunLemmas.{sound_without}
use Rattle.bd_top.proofs.prepare.starts_sound.Goals as goal

pub returns-in-None : goal.returns-in-None
returns-in-None c =
    sound_without c.args.script.now.task c.args.script.now.plan c.requires.bounded.in_range c.requires.bounded.few c.requires.valid c.args.script.now.start c.in-None.is
