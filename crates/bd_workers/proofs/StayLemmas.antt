-- What is said of a window at a place stays true as the history grows.
use Rattle.std.proofs.Common.{ℕ, ◌≤◌, List, [], ◌∷◌, ◌++◌, length, Option, Some, None, Result, Ok, Err, sym, ap, ◌∙◌, subst, arith}
use Rattle.std.specs.List.{slice_get}
use Rattle.bd_merge.specs.declared.standing.Found.TheVariants.{At}
use Rattle.bd_merge.specs.declared.window.Window.{Window}
use Rattle.bd_merge.specs.Stands.{Stands}
use Rattle.bd_search.specs.declared.verdict.Kind.{Kind}
use Rattle.bd_search.specs.declared.verdict.Kind.TheVariants as kind
use Rattle.bd_subtask.proofs.Lists.{get_front}
use Rattle.plan_core.specs.Core.{CoreView}
use Rattle.plan_core.specs.Replies.{Refuses}
use Rattle.plan_core.specs.declared.offer.Offer.{Offer}
use Rattle.plan_core.specs.declared.offer.Offer.TheVariants.{Replace}
use Rattle.bd_pieces.specs.declared.pieces.Piece.{Piece}
use Rattle.bd_pieces.specs.declared.pieces.Refused.{Refused}
use Rattle.bd_pieces.specs.declared.pieces.What.{What}
use Rattle.bd_pieces.specs.declared.pieces.What.TheVariants.{Skipped, Judged}
use Rattle.plan_rebuild.specs.Grown.{Grows}
use Rattle.plan_rebuild.proofs.GrowLemmas.{core_same, grows_long}
use Rattle.bd_workers.specs.Round.{IsVerdictOn, WasTold, RepliesTo, IsWhat, IsPiece, ArePieces}

module _ (mid after : CoreView) (g : Grows mid after) where
  stays_told : (place : ℕ) (offer : Offer) (reply : Result ℕ Refused) → WasTold mid place offer reply → WasTold after place offer reply
  stays_told place offer (Ok k) w = record {
    index = w.index;
    is = w.is;
    late = w.late;
    entry = ap (λ h. slice_get h w.index) g.history ∙ get_front mid.history g.added w.index offer w.entry;
  }
  stays_told place offer (Err refused) w = record {
    late = w.late;
    early = omega (arith, w.early, grows_long mid after g);
    why = subst (λ (c : CoreView). Refuses c offer refused.why) (sym (core_same mid after g refused.place w.early)) w.why;
    told = w.told;
  }

  stays_reply : (place : ℕ) (window : Window) (k : Kind) (reply : Option (Result ℕ Refused)) → RepliesTo mid place window k reply → RepliesTo after place window k reply
  stays_reply place window (kind.Found list) (Some reply) r = stays_told place (Replace window list) reply r
  stays_reply place window (kind.Found list) None r = r
  stays_reply place window kind.Exhausted (Some reply) r = r
  stays_reply place window kind.Exhausted None r = r
  stays_reply place window (kind.Spent floor nodes) (Some reply) r = r
  stays_reply place window (kind.Spent floor nodes) None r = r

  stays_what : (place : ℕ) → place ≤ length mid.history → (window : Window) (nodes : ℕ) (what : What) → IsWhat mid place window nodes what → IsWhat after place window nodes what
  stays_what place le window nodes (Skipped found) w = (subst (λ (c : CoreView). Stands c.tree window found) (sym (core_same mid after g place le)) w.0, w.1)
  stays_what place le window nodes (Judged verdict reply) w = record {
    stands = subst (λ (c : CoreView). Stands c.tree window At) (sym (core_same mid after g place le)) w.stands;
    holds = subst (λ (c : CoreView). IsVerdictOn c.task c.tree window nodes verdict) (sym (core_same mid after g place le)) w.holds;
    replies = stays_reply place window verdict.kind reply w.replies;
  }

  pub stays_piece : (before : CoreView) (nodes : ℕ) (window : Window) (piece : Piece) → IsPiece before mid nodes window piece → IsPiece before after nodes window piece
  stays_piece before nodes window piece p = record {
    since = p.since;
    till = omega (arith, p.till, grows_long mid after g);
    what = stays_what piece.place p.till window nodes piece.what p.what;
  }

  pub stays_pieces : (before : CoreView) (nodes : ℕ) (windows : List Window) (pieces : List Piece) → ArePieces before mid nodes windows pieces → ArePieces before after nodes windows pieces
  stays_pieces before nodes [] [] ps = tt
  stays_pieces before nodes [] (p ∷ pieces) ps = ps
  stays_pieces before nodes (w ∷ windows) [] ps = ps
  stays_pieces before nodes (w ∷ windows) (p ∷ pieces) ps = (stays_piece before nodes w p ps.0, stays_pieces before nodes windows pieces ps.1)

pub more_pieces : (before after : CoreView) (nodes : ℕ) (windows : List Window) (pieces : List Piece) (window : Window) (piece : Piece) →
    ArePieces before after nodes windows pieces → IsPiece before after nodes window piece → ArePieces before after nodes (windows ++ window ∷ []) (pieces ++ piece ∷ [])
more_pieces before after nodes [] [] window piece ps p = (p, tt)
more_pieces before after nodes [] (q ∷ pieces) window piece ps p = absurd ps
more_pieces before after nodes (w ∷ windows) [] window piece ps p = absurd ps
more_pieces before after nodes (w ∷ windows) (q ∷ pieces) window piece ps p = (ps.0, more_pieces before after nodes windows pieces window piece ps.1 p)

-- a piece that was made later
pub since_before : (before mid after : CoreView) (nodes : ℕ) (window : Window) (piece : Piece) → Grows before mid → IsPiece mid after nodes window piece → IsPiece before after nodes window piece
since_before before mid after nodes window piece g p = record { since = omega (arith, p.since, grows_long before mid g); till = p.till; what = p.what }
