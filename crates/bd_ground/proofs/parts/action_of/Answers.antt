use Rattle.std.proofs.Common.{◌++◌, ℕ, List, ap, ◌∙◌}
use Rattle.bd_ground.specs.Instances.{things_of}
use Rattle.bd_ground.specs.Sight.{instance_of}
use Rattle.bd_ground.specs.Task.{needed, added, deleted, call_name}
use Rattle.bd_ground.proofs.MentionLemmas.{overflows_front}
use Rattle.bd_ground.proofs.NotingLemmas.{set_stays, action_is, mentioned_both, overflows_behind}
use Rattle.bd_ground.proofs.parts.action_of.Goals as goal

pub returns-in-Ok-effects_of-clause-mentioned : goal.returns-in-Ok-effects_of-clause-mentioned
returns-in-Ok-effects_of-clause-mentioned c =
    let i = instance_of c.args.i.now in
    mentioned_both c.args.facts.now c.needed_set.new.self c.effects_of.new.facts (needed c.args.domain.now i) (added i ++ deleted i) c.in-Ok.ensures.mentioned c.in-Ok-effects_of.ensures.mentioned

pub returns-in-Ok-effects_of-clause-told : goal.returns-in-Ok-effects_of-clause-told
returns-in-Ok-effects_of-clause-told c =
    let d = c.args.domain.now in
    let p = c.args.problem.now in
    let i = instance_of c.args.i.now in
    let after = c.effects_of.new.facts in
    action_is d p after i _ _ _ _
    (c.from_vec.ensures ∙ c.in_ok-name.ensures ∙ ap (λ (z : List ℕ). call_name (things_of d p) z c.as_slice-args.result.now) c.as_slice.ensures ∙ ap (λ (z : List ℕ). call_name (things_of d p) i.schema.name z) c.as_slice-args.ensures)
    (set_stays c.args.facts.now c.needed_set.new.self after (needed d i) (added i ++ deleted i) c.in-Ok.pre c.in-Ok.ensures.told c.in-Ok.ensures.mentioned c.in-Ok-effects_of.ensures.mentioned)
    c.in-Ok-effects_of.ensures.add c.in-Ok-effects_of.ensures.del

pub returns-in-Err-effects_of-clause-mentioned : goal.returns-in-Err-effects_of-clause-mentioned
returns-in-Err-effects_of-clause-mentioned c =
    let i = instance_of c.args.i.now in
    overflows_behind c.in-Err-effects_of.e c.args.facts.now c.needed_set.new.self (needed c.args.domain.now i) (added i ++ deleted i) c.in-Ok.ensures.mentioned c.in-Err-effects_of.ensures.mentioned

pub returns-in-Err-clause-mentioned : goal.returns-in-Err-clause-mentioned
returns-in-Err-clause-mentioned c =
    let i = instance_of c.args.i.now in
    overflows_front c.in-Err.e c.args.facts.now (needed c.args.domain.now i) (added i ++ deleted i) c.in-Err.ensures.mentioned
