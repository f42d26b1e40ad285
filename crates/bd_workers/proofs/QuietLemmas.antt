-- A round in which the history didn't grow.
use Rattle.std.proofs.Common.{◌≡◌, ℕ, List, [], ◌∷◌, length, Option, Some, None, Result, Ok, Err, refl, ap, ◌∙◌, subst, arith}
use Rattle.std.proofs.lemmas.Option.{slice_get_within}
use Rattle.bd_merge.specs.declared.standing.Found.TheVariants.{At}
use Rattle.bd_merge.specs.declared.window.Window.{Window}
use Rattle.bd_merge.specs.Stands.{Stands}
use Rattle.bd_search.specs.declared.verdict.Kind.{Kind}
use Rattle.bd_search.specs.declared.verdict.Kind.TheVariants as kind
use Rattle.plan_core.specs.Core.{CoreView}
use Rattle.plan_core.specs.Law.{IsCore}
use Rattle.plan_core.specs.Replies.{Refuses}
use Rattle.plan_core.specs.declared.offer.Offer.TheVariants.{Replace}
use Rattle.bd_pieces.specs.declared.pieces.Piece.{Piece}
use Rattle.bd_pieces.specs.declared.pieces.Refused.{Refused}
use Rattle.bd_pieces.specs.declared.pieces.What.{What}
use Rattle.bd_pieces.specs.declared.pieces.What.TheVariants.{Skipped, Judged}
use Rattle.bd_workers.specs.Dry.{IsRefusedKind, IsQuietWhat, AreQuiet}
use Rattle.plan_rebuild.specs.Grown.{Grows, core_at}
use Rattle.bd_workers.specs.Round.{IsRound, IsVerdictOn, RepliesTo, IsWhat, ArePieces}
use Rattle.plan_rebuild.proofs.GrowLemmas.{core_then}

module _ (before after : CoreView) (is : IsCore before) (g : Grows before after) (same : after.history ≡ before.history) where
  there : core_at after (length before.history) ≡ before
  there = core_then before after g is.replays

  at_place : (place : ℕ) → place ≡ length before.history → core_at after place ≡ before
  at_place place e = ap (core_at after) e ∙ there

  refused : (place : ℕ) (window : Window) (k : Kind) (reply : Option (Result ℕ Refused)) → place ≡ length before.history → RepliesTo after place window k reply → IsRefusedKind before window k reply
  refused place window (kind.Found list) None e r = r
  refused place window (kind.Found list) (Some (Ok k)) e r =
      absurd (omega (arith, e, r.late, slice_get_within after.history r.index (Replace window list) r.entry, ap length same))
  refused place window (kind.Found list) (Some (Err why)) e r =
      (subst (λ (c : CoreView). Refuses c (Replace window list) why.why) (at_place why.place (omega (arith, e, r.late, r.early, ap length same))) r.why, r.told)
  refused place window kind.Exhausted (Some reply) e r = absurd r
  refused place window kind.Exhausted None e r = refl
  refused place window (kind.Spent floor nodes) (Some reply) e r = absurd r
  refused place window (kind.Spent floor nodes) None e r = refl

  quiet_what : (place nodes : ℕ) (window : Window) (what : What) → place ≡ length before.history → IsWhat after place window nodes what → IsQuietWhat before nodes window what
  quiet_what place nodes window (Skipped found) e w = (subst (λ (c : CoreView). Stands c.tree window found) (at_place place e) w.0, w.1)
  quiet_what place nodes window (Judged verdict reply) e w = record {
    stands = subst (λ (c : CoreView). Stands c.tree window At) (at_place place e) w.stands;
    holds = subst (λ (c : CoreView). IsVerdictOn c.task c.tree window nodes verdict) (at_place place e) w.holds;
    refused = refused place window verdict.kind reply e w.replies;
  }

  pub quiet_pieces : (nodes : ℕ) (windows : List Window) (pieces : List Piece) → ArePieces before after nodes windows pieces → AreQuiet before nodes windows pieces
  quiet_pieces nodes [] [] ps = tt
  quiet_pieces nodes [] (p ∷ pieces) ps = ps
  quiet_pieces nodes (w ∷ windows) [] ps = ps
  quiet_pieces nodes (w ∷ windows) (p ∷ pieces) ps =
      let here : p.place ≡ length before.history = omega (arith, ps.0.since, ps.0.till, ap length same) in
      ((here, quiet_what p.place nodes w p.what here ps.0.what), quiet_pieces nodes windows pieces ps.1)

pub quiet_law : (before after : CoreView) (windows : List Window) (nodes : ℕ) (pieces : List Piece) →
    IsCore before → IsRound before windows nodes after pieces → after.history ≡ before.history → AreQuiet before nodes windows pieces
quiet_law before after windows nodes pieces is round same = quiet_pieces before after is round.adds.grows same nodes windows pieces round.are
