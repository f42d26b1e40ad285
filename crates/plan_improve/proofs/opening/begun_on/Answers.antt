use Rattle.plan_improve.proofs.OpenLemmas.{may_same, sound_same, begun_same}
use Rattle.plan_improve.proofs.opening.begun_on.Goals as goal

pub begun-requires-clause-may : goal.begun-requires-clause-may
begun-requires-clause-may c = may_same c.in_ok-task.task c.args.task.now c.in_ok-start.start c.args.start.now c.in_ok-task.ensures c.in_ok-start.ensures c.requires.may

pub begun-requires-clause-sound : goal.begun-requires-clause-sound
begun-requires-clause-sound c = sound_same c.in_ok-task.task c.args.task.now c.in_ok-start.start c.args.start.now c.in_ok-task.ensures c.in_ok-start.ensures c.requires.sound

pub returns : goal.returns
returns c = begun_same c.in_ok-task.task c.args.task.now c.in_ok-start.start c.args.start.now c.args.stop c.begun.result c.in_ok-task.ensures c.in_ok-start.ensures c.begun.ensures
