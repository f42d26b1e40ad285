use Rattle.std.proofs.Common.{refl}
use Rattle.plan_improve.proofs.FollowLemmas.{entry_is, grows_next, next_is, next_may}
use Rattle.plan_improve.proofs.TellLemmas.{put_told, tells_none}
use Rattle.plan_improve.proofs.putting.put_next.Goals as goal

pub follow-requires : goal.follow-requires
follow-requires g c =
    next_may c.args.follower.now c.args.lead.now c.requires.grows c.index-history-history.result c.keeps.ensures c.keeps-2.ensures c.requires.behind
    (entry_is c.history.result.now c.history-2.result.now c.args.lead.now.history c.args.follower.now.history c.index-history-history.result c.history.ensures c.history-2.ensures c.index-history-history.is)

pub returns-in-Err-clause-told : goal.returns-in-Err-clause-told
returns-in-Err-clause-told g c = tells_none c.args.follower.now c.args.lead.now _ c.requires.grows refl

pub returns-in-Ok-clause-next : goal.returns-in-Ok-clause-next
returns-in-Ok-clause-next g c =
    next_is c.args.follower.now c.follow.new.core c.args.lead.now c.index-history-history.result c.put_entry.result c.in-Ok.ensures.taken
    (grows_next c.args.follower.now c.args.lead.now c.requires.grows c.index-history-history.result c.requires.behind
    (entry_is c.history.result.now c.history-2.result.now c.args.lead.now.history c.args.follower.now.history c.index-history-history.result c.history.ensures c.history-2.ensures c.index-history-history.is))

pub returns-in-Ok-clause-told : goal.returns-in-Ok-clause-told
returns-in-Ok-clause-told g c =
    put_told c.args.follower.now c.follow.new.core c.args.lead.now c.index-history-history.result c.in-Ok.place _ c.put_entry.result c.in-Ok.ensures.taken c.in-Ok.ensures.place
    (grows_next c.args.follower.now c.args.lead.now c.requires.grows c.index-history-history.result c.requires.behind
    (entry_is c.history.result.now c.history-2.result.now c.args.lead.now.history c.args.follower.now.history c.index-history-history.result c.history.ensures c.history-2.ensures c.index-history-history.is))
    c.put_entry.ensures.lawful c.put_entry.ensures.put
