use Rattle.bd_ground.specs.Sight.{instance_of}
use Rattle.bd_ground.specs.Task.{added, deleted}
use Rattle.bd_ground.proofs.MentionLemmas.{overflows_front}
use Rattle.bd_ground.proofs.NotingLemmas.{set_stays, mentioned_both, overflows_behind}
use Rattle.bd_ground.proofs.parts.effects_of.Goals as goal

pub returns-in-Ok-deleted_set-clause-mentioned : goal.returns-in-Ok-deleted_set-clause-mentioned
returns-in-Ok-deleted_set-clause-mentioned c =
    let i = instance_of c.args.i.now in
    mentioned_both c.args.facts.now c.added_set.new.self c.deleted_set.new.self (added i) (deleted i) c.in-Ok.ensures.mentioned c.in-Ok-deleted_set.ensures.mentioned

pub returns-in-Ok-deleted_set-clause-add : goal.returns-in-Ok-deleted_set-clause-add
returns-in-Ok-deleted_set-clause-add c =
    let i = instance_of c.args.i.now in
    set_stays c.args.facts.now c.added_set.new.self c.deleted_set.new.self (added i) (deleted i) c.in-Ok.add c.in-Ok.ensures.told c.in-Ok.ensures.mentioned c.in-Ok-deleted_set.ensures.mentioned

pub returns-in-Err-deleted_set-clause-mentioned : goal.returns-in-Err-deleted_set-clause-mentioned
returns-in-Err-deleted_set-clause-mentioned c =
    let i = instance_of c.args.i.now in
    overflows_behind c.in-Err-deleted_set.e c.args.facts.now c.added_set.new.self (added i) (deleted i) c.in-Ok.ensures.mentioned c.in-Err-deleted_set.ensures.mentioned

pub returns-in-Err-clause-mentioned : goal.returns-in-Err-clause-mentioned
returns-in-Err-clause-mentioned c =
    let i = instance_of c.args.i.now in
    overflows_front c.in-Err.e c.args.facts.now (added i) (deleted i) c.in-Err.ensures.mentioned
