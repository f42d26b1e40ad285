use Rattle.bd_tight.specs.Gains.{first_gain}
use Rattle.bd_tight.proofs.ToldLemmas.{some_sought, none_sought}
use Rattle.bd_tight.proofs.gaining.first_gain.Goals as goal

pub returns-in-Some-clause-gain : goal.returns-in-Some-clause-gain
returns-in-Some-clause-gain c =
    some_sought c.args.task.now c.args.tree.now c.args.span c.deref-id-items.result.now c.loop-id.id-index c.id-item.result c.loop-id-test.true c.id-item.is
    c.in_ok-gain.field-0 c.in-Some.gain (first_gain c.args.task.now c.args.tree.now c.args.span) c.in_ok-gain.ensures c.in-Some.is c.loop-id.invariant

pub loop-id-preserved : goal.loop-id-preserved
loop-id-preserved c =
    none_sought c.args.task.now c.args.tree.now c.args.span c.deref-id-items.result.now c.loop-id.id-index c.id-item.result c.loop-id-test.true c.id-item.is
    c.in_ok-gain.field-0 (first_gain c.args.task.now c.args.tree.now c.args.span) c.in_ok-gain.ensures c.in-None.is c.loop-id.invariant
