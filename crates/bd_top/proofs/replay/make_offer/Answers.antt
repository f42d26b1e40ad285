use Rattle.std.proofs.Common.{Err, refl, ap, ◌∙◌, rules}
use Rattle.bd_task.specs.TaskView.{TaskView}
use Rattle.plan_core.specs.Core.{CoreView}
use Rattle.run_texts.specs.Texts.{reply_line}
use Rattle.run_texts.proofs.TakenLemmas.{follows_put, follows_none, betters_more, same_betters, puts_same}
use Rattle.bd_top.proofs.ReplayLemmas.{made_one, told_of, replies_more, replies_same}
use Rattle.bd_top.proofs.replay.make_offer.Goals as goal

pub returns-in-Ok-clause-out : goal.returns-in-Ok-clause-out
returns-in-Ok-clause-out g c =
    follows_put _ _ _ _ c.put_entry.result
    (betters_more c.args.core.now c.offer.new.self c.args.offer.now c.in-Ok.place c.put_entry.ensures.lawful c.in-Ok.ensures.reply c.in-Ok.ensures.ok)
    c.put_entry.ensures.put

pub returns-in-Ok-clause-notes : goal.returns-in-Ok-clause-notes
returns-in-Ok-clause-notes g c = follows_none _ _ _ c.put_entry.result (replies_same c.args.core.now.task c.args.replies.now.items _ _ c.push_within.ensures.items) refl

pub returns-in_default-clause-made : goal.returns-in_default-clause-made
returns-in_default-clause-made g c =
    made_one _ _ _ _ _ c.put_reply.result (record {
      reply = Err c.in-Err.why;
      told = told_of _ c.in-Err.why c.in-Err.ensures.fact c.in_default.not-NoMemory;
      replied = c.in-Err.ensures.reply;
      listed = c.push_within-in_default.ensures.items;
      leads = c.in-Err.ensures.err;
    })

pub returns-in_default-clause-out : goal.returns-in_default-clause-out
returns-in_default-clause-out g c = follows_none _ _ _ c.put_reply.result (same_betters c.args.core.now c.offer.new.self c.in-Err.ensures.err) refl

pub returns-in_default-clause-notes : goal.returns-in_default-clause-notes
returns-in_default-clause-notes g c =
    follows_put _ _ _ _ c.put_reply.result
    (replies_more c.args.core.now.task c.args.replies.now.items _ c.len-number.result c.in-Err.why c.push_within-in_default.ensures.items (search rules))
    (puts_same _ _ _ _ (ap (λ (t : TaskView). reply_line t c.len-number.result c.in-Err.why) (c.task.ensures ∙ ap (λ (z : CoreView). z.task) c.in-Err.ensures.err)) c.put_reply.ensures.put)
