-- An offer that may be accepted has short lists, and is refused for want of memory alone.
use Rattle.std.proofs.Common.{◌≡◌, ℕ, ◌<◌, ◌≤◌, ◌^◌, Bool, true, false, List, length, ◌∙◌, arith}
use Rattle.std.proofs.lemmas.Bool.{and_parts, both_ways}
use Rattle.std.proofs.lemmas.Nat.{mul-le}
use Rattle.bd_base.specs.Facts.{has, is_subset}
use Rattle.bd_links.proofs.Members.{has_from_subset}
use Rattle.bd_shape.specs.Kids.{kids_at}
use Rattle.bd_tree.specs.Tree.{steps_of}
use Rattle.bd_tree.specs.WellFormed.{are_distinct}
use Rattle.bd_tree.proofs.MisfitLemmas.{order_from}
use Rattle.plan_core.specs.Core.{CoreView}
use Rattle.plan_core.specs.Law.{HasRoom}
use Rattle.plan_core.specs.Replies.{IsAcceptable, IsLent, MayTighten, MayRebuild, Refuses}
use Rattle.plan_core.specs.declared.offer.Offer.{Offer}
use Rattle.plan_core.specs.declared.offer.Offer.TheVariants.{Replace, Tighten, Rebuild}
use Rattle.plan_core.specs.declared.refusal.Refusal.{Refusal}
use Rattle.plan_core.specs.declared.refusal.Refusal.TheVariants as refusal
use Rattle.plan_core.proofs.CoreLemmas.{few_nodes, list_short}
use Rattle.plan_core.proofs.MeasureLemmas.{distinct_parts}
use Rattle.plan_rebuild.proofs.TakenLemmas.{memory_alone}
use Rattle.plan_rebuild.specs.Taking as taking
use Rattle.plan_improve.specs.Inner.{is_memory}
use Rattle.plan_improve.proofs.ShortLemmas.{among, few_kids_at, few_pairs}

module _ (core : CoreView) (room : HasRoom core) where
  module _ (block : ℕ) (left right : List ℕ) (may : MayTighten core block left right) where
    two : (are_distinct left ≡ true) × (are_distinct right ≡ true) × ((q : ℕ) → has left q ≡ true → has right q ≡ false)
    two = distinct_parts left right (and_parts _ _ (and_parts _ _ (and_parts _ _ (and_parts _ _ may.sides).0).0).0).1

    sides : (is_subset left (kids_at block core.tree) ≡ true) × (is_subset right (kids_at block core.tree) ≡ true)
    sides = ((and_parts _ _ (and_parts _ _ may.there).0).1, (and_parts _ _ may.there).1)

    few : length (kids_at block core.tree) < 2 ^ 32
    few = few_kids_at block core.tree (few_nodes core room)

    tighten_lent : IsLent (Tighten block left right)
    tighten_lent = (
      omega (arith, few, among left (kids_at block core.tree) two.0 (has_from_subset left (kids_at block core.tree) sides.0)),
      omega (arith, few, among right (kids_at block core.tree) two.1 (has_from_subset right (kids_at block core.tree) sides.1)),
    )

  rebuild_lent : (order : List (ℕ × ℕ)) → MayRebuild core order → IsLent (Rebuild order)
  rebuild_lent order may =
      let short : steps_of core.tree ≤ 4_096 = room.short in
      omega (arith, few_pairs (steps_of core.tree) order (order_from (steps_of core.tree) order may.orderly), mul-le (steps_of core.tree) (steps_of core.tree) 4_096 4_096 short short)

  pub lent : (offer : Offer) → IsAcceptable core offer → IsLent offer
  lent (Replace window list) may = omega (arith, list_short core window list room may.stands may.short)
  lent (Tighten block left right) may = tighten_lent block left right may
  lent (Rebuild order) may = rebuild_lent order may

same_memory : (why : Refusal) → taking.is_memory why ≡ true → is_memory why ≡ true
same_memory (refusal.Closed replaced entries) m = m
same_memory (refusal.NoAction number) m = m
same_memory refusal.Gone m = m
same_memory refusal.Split m = m
same_memory (refusal.NotCheaper old new) m = m
same_memory (refusal.TooLong steps) m = m
same_memory (refusal.Unlinked fault) m = m
same_memory refusal.Between m = m
same_memory (refusal.TooDeep depth) m = m
same_memory (refusal.NoGain old new) m = m
same_memory refusal.Idle m = m
same_memory (refusal.BadOrder i j) m = m
same_memory refusal.NoMemory m = m

pub no_refusal : (core : CoreView) (offer : Offer) → IsAcceptable core offer → (why : Refusal) (memory : Bool) → Refuses core offer why → memory ≡ is_memory why → memory ≡ false → ⊥
no_refusal core offer may why memory r is other = both_ways memory other (is ∙ same_memory why (memory_alone core offer may why r))
