use Rattle.bd_top.proofs.NamedLemmas.{named}
use Rattle.bd_top.proofs.TextsLemmas.{named_unread}
use Rattle.bd_top.proofs.UnreadLemmas.{missing_told, failed_told}
use Rattle.bd_top.proofs.prepare.prepare_named.Goals as goal

pub returns-in-Ok-clause-prepared : goal.returns-in-Ok-clause-prepared
returns-in-Ok-clause-prepared g c =
    named (g.H.Shelf.tells c.args.shelf.now c.args.name.now) _ c.in-Ok.text c.deref.result.now c.deref.ensures.value c.in-Ok.ensures.given c.args.name.now c.prepare_text.result c.prepare_text.ensures

pub returns-in-Err-Missing-clause-prepared : goal.returns-in-Err-Missing-clause-prepared
returns-in-Err-Missing-clause-prepared g c =
    named_unread c.args.name.now (g.H.Shelf.tells c.args.shelf.now c.args.name.now) _ _ _ c.unread.ensures (missing_told _ _ _ _ _ _ c.in-Err-Missing.field-0-is c.in-Err-Missing.ensures.given)

pub returns-in-Err-Failed-clause-prepared : goal.returns-in-Err-Failed-clause-prepared
returns-in-Err-Failed-clause-prepared g c =
    named_unread c.args.name.now (g.H.Shelf.tells c.args.shelf.now c.args.name.now) _ _ _ c.unread-in-Err-Failed.ensures (failed_told _ _ _ _ _ _ c.in-Err-Failed.field-0-is c.in-Err-Failed.ensures.given)
