-- What an accepted offer keeps, whatever its kind: room, a sound tree, and no higher cost.
use Rattle.std.proofs.Common.{◌≡◌, ℕ, ◌+◌, ◌<◌, ◌≤◌, ◌^◌, Bool, true, false, List, [], ◌∷◌, ◌++◌, length, count_by, cond, Some, Err, refl, sym, ap, ◌∙◌, subst, arith}
use Rattle.std.proofs.lemmas.List.Sums.{sum_by-cons}
use Rattle.bd_task.specs.Valid.{cost_of}
use Rattle.bd_tree.specs.declared.node.Node.{Node}
use Rattle.bd_tree.specs.Tree.{depth_of, nodes_of, pairs_of, listed_of}
use Rattle.bd_links.specs.declared.parts.Fault.{Fault}
use Rattle.bd_links.specs.Sound.{IsSound, first_fault, are_below}
use Rattle.plan_core.specs.Core.{CoreView, state_of, accepted, due_after}
use Rattle.plan_core.specs.Law.{HasRoom}
use Rattle.plan_core.specs.Replies.{IsClosed, IsAcceptable, IsApplicable, IsGain, IsMade, IsShallow, MayTighten, Refuses, RefusesTighten, TestsTree}
use Rattle.plan_core.specs.declared.offer.Offer.{Offer}
use Rattle.plan_core.specs.declared.offer.Offer.TheVariants.{Replace, Tighten, Rebuild}
use Rattle.plan_core.specs.declared.refusal.Refusal.TheVariants.{Closed, TooDeep, NoGain, Unlinked}
use Rattle.plan_core.specs.declared.refusal.Refusal.{Refusal}
use Rattle.plan_core.proofs.TightenLemmas.{can_tighten}
use Rattle.plan_core.proofs.CoreLemmas.{replace_leaves_room, rebuild_leaves_room, rebuilt_cost, tighten_leaves_room, tightened_cost, tightened_small, tightened_in_range, merged_cost, next_small, list_short, few_nodes}

pub room_after : (core : CoreView) (offer : Offer) → HasRoom core → IsAcceptable core offer → HasRoom (accepted offer core)
room_after core (Replace window list) room may = replace_leaves_room core window list room may
room_after core (Tighten block left right) room may = tighten_leaves_room core block left right room may
room_after core (Rebuild order) room may = rebuild_leaves_room core order room may

pub sound_after : (core : CoreView) (offer : Offer) → IsAcceptable core offer → IsSound core.task (accepted offer core).tree
sound_after core (Replace window list) may = may.sound
sound_after core (Tighten block left right) may = may.sound
sound_after core (Rebuild order) may = may.sound

pub cost_after : (core : CoreView) (offer : Offer) → HasRoom core → IsAcceptable core offer → cost_of core.task (listed_of (accepted offer core).tree) ≤ cost_of core.task (listed_of core.tree)
cost_after core (Replace window list) room may = omega (arith, merged_cost core.task core.tree window list core.next room.formed may.stands.0, may.cheaper)
cost_after core (Tighten block left right) room may = omega (arith, tightened_cost core block left right room may.there may.sides)
cost_after core (Rebuild order) room may = omega (arith, rebuilt_cost core.task core.tree order)

-- what may be accepted can be applied
pub applicable : (core : CoreView) (offer : Offer) → HasRoom core → IsAcceptable core offer → IsApplicable offer (state_of core)
applicable core (Replace window list) room may = record {
  stands = may.stands;
  fresh = room.fresh;
  small = next_small core room;
  few = omega (arith, few_nodes core room, room.few, room.short, room.entries, list_short core window list room may.stands may.short);
}
applicable core (Tighten block left right) room may = record {
  can = can_tighten core.tree block left right core.next room.formed room.fresh may.there may.sides;
  fresh = room.fresh;
  small = next_small core room;
}
applicable core (Rebuild order) room may = may.orderly

-- a closed core refuses every offer as that
pub closed_refuses : (core : CoreView) (offer : Offer) (replaced entries : ℕ) → IsClosed core replaced entries → Refuses core offer (Closed replaced entries)
closed_refuses core (Replace window list) replaced entries is = is
closed_refuses core (Tighten block left right) replaced entries is = is
closed_refuses core (Rebuild order) replaced entries is = is

-- one more entry of a history
pub due_more : (due : Bool) (history : List Offer) (offer : Offer) → due_after due (history ++ offer ∷ []) ≡ due_after (due_after due history) (offer ∷ [])
due_more due [] offer = refl
due_more due (Replace window list ∷ rest) offer = due_more true rest offer
due_more due (Tighten block left right ∷ rest) offer = due_more due rest offer
due_more due (Rebuild order ∷ rest) offer = due_more false rest offer

pub count_more : (test : Offer → Bool) (history : List Offer) (offer : Offer) → count_by test (history ++ offer ∷ []) ≡ count_by test history + count_by test (offer ∷ [])
count_more test [] offer = omega arith
count_more test (x ∷ xs) offer =
    omega (arith, sum_by-cons (λ x. cond (test x) 1 0) x (xs ++ offer ∷ []), sum_by-cons (λ x. cond (test x) 1 0) x xs, count_more test xs offer)

-- what the tree of a tightening says of it
module _ (core : CoreView) (block : ℕ) (left right : List ℕ) (tree : Node) (made : IsMade core block left right tree) where
  -- a tree that is too deep or without gain refuses it
  pub tree_refuses : (why : Refusal) → TestsTree {A = Unit {0}} core tree (Err why) → RefusesTighten core block left right why
  tree_refuses (TooDeep depth) h = (made.is_open, made.there, made.sides, h.0 ∙ ap depth_of made.tree_is, h.1)
  tree_refuses (NoGain old new) h = (made.is_open, made.there, made.sides, subst IsShallow made.tree_is h.0, h.1, h.2 ∙ ap pairs_of made.tree_is, h.3)
  tree_refuses other h = elim h [ ]

  pub fault_refuses : (fault : Fault) → IsShallow tree → IsGain core tree → first_fault core.task tree ≡ Some fault → RefusesTighten core block left right (Unlinked fault)
  fault_refuses fault shallow gain e =
      (made.is_open, made.there, made.sides, subst IsShallow made.tree_is shallow, subst (IsGain core) made.tree_is gain, ap (first_fault core.task) (sym made.tree_is) ∙ e)

  pub may_tighten : IsShallow tree → IsGain core tree → IsSound core.task tree → MayTighten core block left right
  may_tighten shallow gain sound = record {
    is_open = made.is_open;
    there = made.there;
    sides = made.sides;
    shallow = subst IsShallow made.tree_is shallow;
    gain = subst (IsGain core) made.tree_is gain;
    sound = subst (IsSound core.task) made.tree_is sound;
  }

  pub made_small : HasRoom core → nodes_of tree < 2 ^ 32
  made_small room = omega (arith, ap nodes_of made.tree_is, tightened_small core block left right room made.there made.sides)

  pub made_in_range : HasRoom core → are_below (length core.task.actions) tree ≡ true
  made_in_range room = ap (are_below (length core.task.actions)) made.tree_is ∙ tightened_in_range core block left right room made.there made.sides
