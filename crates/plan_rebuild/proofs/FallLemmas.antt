-- Each accepted offer lowers the measure.
use Rattle.std.proofs.Common.{◌≡◌, ℕ, ◌⊎◌, inl, inr, refl, sym, ap, ◌∙◌, arith, Ok}
use Rattle.plan_core.specs.Core.{CoreView, accepted}
use Rattle.plan_core.specs.Law.{IsCore}
use Rattle.plan_core.specs.Replies.{Replies}
use Rattle.plan_core.specs.declared.offer.Offer.{Offer}
use Rattle.plan_core.specs.declared.offer.Offer.TheVariants.{Replace, Tighten, Rebuild}
use Rattle.plan_core.proofs.AcceptLemmas.{due_more}
use Rattle.plan_core.proofs.CoreLemmas.{merged_cost, tightened_cost, rebuilt_cost}
use Rattle.plan_rebuild.specs.Measure.{IsBelow, measure_of}

pub falls : (core : CoreView) (offer : Offer) (place : ℕ) → IsCore core → Replies core offer (Ok place) → IsBelow (measure_of (accepted offer core)) (measure_of core)
falls core (Replace window list) place is r =
    inl (omega (arith, merged_cost core.task core.tree window list core.next is.room.formed r.0.stands.0, r.0.cheaper))
falls core (Tighten block left right) place is r =
    inr (inr (tightened_cost core block left right is.room r.0.there r.0.sides, due_more Rattle.std.proofs.Common.false core.history (Tighten block left right), r.0.gain))
falls core (Rebuild order) place is r =
    inr (inl (rebuilt_cost core.task core.tree order, due_more Rattle.std.proofs.Common.false core.history (Rebuild order), r.0.due))
