use Rattle.bd_ground.proofs.NotingLemmas.{made-next, made-overflow}
use Rattle.bd_ground.proofs.parts.actions_of.Goals as goal

pub loop-i-preserved : goal.loop-i-preserved
loop-i-preserved c =
    let x = c.i-item.result in
    made-next c.args.domain.now c.args.problem.now c.args.facts.now c.loop-i.facts c.action_of.new.facts c.loop-i.actions.items c.push.new.self.items c.args.list.now c.loop-i.i-index x x c.in-Ok.action c.loop-i-test.true c.i-item.is c.loop-i.invariant
    c.in-Ok.ensures.mentioned c.in-Ok.ensures.told c.in_ok-push-in-Ok.ensures.items

pub returns-in-Err-clause-mentioned : goal.returns-in-Err-clause-mentioned
returns-in-Err-clause-mentioned c =
    let x = c.i-item.result in
    made-overflow c.args.domain.now c.args.problem.now c.in-Err.e c.args.facts.now c.loop-i.facts c.loop-i.actions.items c.args.list.now c.loop-i.i-index x x c.loop-i-test.true c.i-item.is c.loop-i.invariant c.in-Err.ensures.mentioned
