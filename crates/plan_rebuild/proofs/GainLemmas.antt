-- A gain of an open core's tree is refused for none of the conditions of a tightening, whatever the next id is.
use Rattle.std.proofs.Common.{◌≡◌, ℕ, ◌<◌, ◌≤◌, ◌^◌, Bool, true, false, not, ◌||◌, List, [], ◌∷◌, ◌++◌, length, map, Option, Some, None, Result, Ok, Err, IfOk, IfSome, slice_get, sym, ap, ◌∙◌, subst, inl, inr, arith}
use Rattle.std.specs.List.{list_all}
use Rattle.std.specs.Option.{option_map_or, is_some}
use Rattle.std.proofs.lemmas.Bool.{and_parts, and_from, not-true, ltb-false, lt-ltb}
use Rattle.bd_base.specs.Facts.{has, is_subset}
use Rattle.bd_task.specs.TaskView.{TaskView}
use Rattle.bd_tree.specs.declared.node.Node.{Node, Block}
use Rattle.bd_tree.specs.declared.node.Node.TheViews.{outs-Block}
use Rattle.bd_tree.specs.Tree.{id_of, ids_of, greatest}
use Rattle.bd_tree.specs.WellFormed.{are_distinct}
use Rattle.bd_tree.proofs.TreeLemmas.{has-append, is_found}
use Rattle.bd_links.specs.Sound.{effects_of}
use Rattle.bd_reason.specs.Reasons.{fact_of, reasons_of}
use Rattle.bd_renamed.specs.Alike.{AreTaken, TightensAlike}
use Rattle.bd_renamed.proofs.ShiftLemmas.{tightens_alike}
use Rattle.bd_shape.specs.Grouped.{CanGroup, grouped, side_id}
use Rattle.bd_shape.specs.Hull.{between_at}
use Rattle.bd_shape.specs.Kids.{convex_at, kids_at}
use Rattle.bd_shape.specs.Tightened.{both_grouped, right_fresh}
use Rattle.bd_tight.specs.declared.gain.Gain.{Gain}
use Rattle.bd_tight.specs.Candidates.{IsCandidate, IsSide, Qualifies, fits, fresh_of}
use Rattle.bd_tight.proofs.HullLemmas.{alone_groups, hull_groups, named_at}
use Rattle.plan_core.specs.Core.{CoreView}
use Rattle.plan_core.specs.Law.{IsCore}
use Rattle.plan_core.specs.Replies.{IsOpen}
use Rattle.plan_core.specs.Sides.{are_sides, are_two, has_sides, is_block, is_block_at, is_block_layer}
use Rattle.plan_core.proofs.SideLemmas.{below_top, kid_below}
use Rattle.plan_rebuild.specs.Taking.{MayTake}

-- two lists without a number in common, each with different ones
distinct_both : (xs ys : List ℕ) → are_distinct xs ≡ true → are_distinct ys ≡ true → list_all (λ x. not (has ys x)) xs ≡ true → are_distinct (xs ++ ys) ≡ true
distinct_both [] ys d e apart = e
distinct_both (x ∷ xs) ys d e apart =
    let p = and_parts (not (has xs x)) (are_distinct xs) d in
    let q = and_parts (not (has ys x)) (list_all (λ x. not (has ys x)) xs) apart in
    and_from _ _ (ap not (has-append xs ys x) ∙ neither (has xs x) (has ys x) p.0 q.0) (distinct_both xs ys p.1 e q.1)
  where
    neither : (a b : Bool) → not a ≡ true → not b ≡ true → not (a || b) ≡ true
    neither true b e f = e
    neither false b e f = f

-- numbers of a set are no greater than what none of its numbers is above
greatest_within : (xs ys : List ℕ) (top : ℕ) → ((q : ℕ) → has ys q ≡ true → q ≤ top) → is_subset xs ys ≡ true → greatest xs ≤ top
greatest_within [] ys top h e = omega arith
greatest_within (x ∷ xs) ys top h e =
    let p = and_parts (has ys x) (is_subset xs ys) e in
    omega (arith, h x p.0, greatest_within xs ys top h p.1)

module _ (root : Node) (span : ℕ) (gain : Gain) where
  -- what a candidate that fits is known for
  record Fits : Type 0 where
    apart : list_all (λ x. not (has gain.right x)) gain.left ≡ true
    left_short : length gain.left ≤ span
    right_short : length gain.right ≤ span
    right_convex : convex_at gain.block gain.right (grouped root gain.block gain.left (fresh_of root)) ≡ true
    free : not (between_at gain.block (side_id gain.left (fresh_of root)) (side_id gain.right (right_fresh gain.left (fresh_of root))) (both_grouped root gain.block gain.left gain.right (fresh_of root))) ≡ true

  fit_is : fits root span gain ≡ true → Fits
  fit_is e =
      let last = and_parts _ _ e in
      let fourth = and_parts _ _ last.0 in
      let third = and_parts _ _ fourth.0 in
      let second = and_parts (list_all (λ x. not (has gain.right x)) gain.left) _ third.0 in
      record {
        apart = second.0;
        left_short = ltb-false span (length gain.left) (not-true _ second.1);
        right_short = ltb-false span (length gain.right) (not-true _ third.1);
        right_convex = fourth.1;
        free = last.1;
      }

module _ (core : CoreView) (span : ℕ) (gain : Gain) (is : IsCore core) (cand : IsCandidate core.task.actions core.tree span gain) where
  abbrev root : Node
  root = core.tree

  abbrev block : ℕ
  block = gain.block

  abbrev facts : List ℕ
  facts = map fact_of (reasons_of (effects_of core.task.actions cand.first) (effects_of core.task.actions cand.second))

  -- each side can be grouped
  side_groups : (kid : Node) (at : ℕ) → slice_get cand.kids at ≡ Some kid → (side : List ℕ) → IsSide core.task.actions (Block block cand.kids cand.order) cand.kids facts kid side → CanGroup root block side
  side_groups kid at there side (inl alone) =
      subst (CanGroup root block) (sym alone) (alone_groups root block cand.kids cand.order is.room.formed cand.found (id_of kid) (named_at cand.kids at kid there))
  side_groups kid at there side (inr hull) =
      subst (CanGroup root block) (sym hull.4)
      (hull_groups root block cand.kids cand.order is.room.formed cand.found (id_of kid) (id_of hull.1) (named_at cand.kids at kid there) (named_at cand.kids hull.0 hull.1 hull.2))

  left_groups : CanGroup root block gain.left
  left_groups = side_groups cand.first cand.i cand.at_i gain.left cand.left

  right_groups : CanGroup root block gain.right
  right_groups = side_groups cand.second cand.j cand.at_j gain.right cand.right

  fit : Fits root span gain
  fit = fit_is root span gain cand.fit

  block_there : is_block_at block root ≡ true
  block_there = ap (λ (o : Option Node). option_map_or is_block o false) cand.found ∙ ap is_block_layer (outs-Block block cand.kids cand.order)

  sides_there : has_sides root block gain.left gain.right ≡ true
  sides_there = and_from _ _ (and_from _ _ block_there left_groups.own) right_groups.own

  two : are_two gain.left gain.right ≡ true
  two =
      and_from _ _ (and_from _ _ (lt-ltb 0 (length gain.left) left_groups.some) (lt-ltb 0 (length gain.right) right_groups.some))
      (distinct_both gain.left gain.right left_groups.once right_groups.once fit.apart)

  -- the ids are taken, and the next one is free
  taken : AreTaken root block gain.left gain.right (fresh_of root)
  taken = record {
    in_tree = omega arith;
    at_block = omega (arith, below_top (ids_of root) block (sym (is_found block root) ∙ ap is_some cand.found));
    on_left = omega (arith, greatest_within gain.left (kids_at block root) (greatest (ids_of root)) (λ q h. kid_below block q root h) left_groups.own);
    on_right = omega (arith, greatest_within gain.right (kids_at block root) (greatest (ids_of root)) (λ q h. kid_below block q root h) right_groups.own);
  }

  alike : TightensAlike core.task root block gain.left gain.right (fresh_of root) core.next
  alike = tightens_alike core.task root block gain.left gain.right (fresh_of root) core.next taken (omega (arith, is.room.fresh))

  sides_are : are_sides root block gain.left gain.right core.next ≡ true
  sides_are = and_from _ _ (and_from _ _ (and_from _ _ two left_groups.convex) (alike.convex ∙ fit.right_convex)) (ap not alike.between ∙ fit.free)

  pub may_take : IsOpen core → span < 2 ^ 32 → Qualifies core.task core.tree gain → MayTake core gain
  may_take free small q = record {
    may = record {
      is_open = free;
      there = sides_there;
      sides = sides_are;
      shallow = omega (arith, alike.tree.depth, q.shallow);
      gain = omega (arith, alike.tree.pairs, q.fewer);
      sound = alike.tree.sound.0 q.sound;
    };
    lent = (omega (arith, fit.left_short, small), omega (arith, fit.right_short, small));
  }

-- a gain that is told may be taken
pub gain_told : {E : Type 0} (core : CoreView) (span : ℕ) (task : TaskView) (tree : Node) (r : Result (Option Gain) E) → IsCore core → IsOpen core → span < 2 ^ 32 → task ≡ core.task → tree ≡ core.tree →
    IfOk r (λ told. IfSome told (λ gain. IsCandidate task.actions tree span gain)) → IfOk r (λ told. IfSome told (λ gain. Qualifies task tree gain)) → IfOk r (λ told. IfSome told (λ gain. MayTake core gain))
gain_told core span task tree (Ok (Some gain)) is free small same_task same_tree candidate qualifies =
    may_take core span gain is
    (subst (λ (z : Node). IsCandidate core.task.actions z span gain) same_tree (subst (λ (z : TaskView). IsCandidate z.actions tree span gain) same_task candidate))
    free small
    (subst (λ (z : Node). Qualifies core.task z gain) same_tree (subst (λ (z : TaskView). Qualifies z tree gain) same_task qualifies))
gain_told core span task tree (Ok None) is free small same_task same_tree candidate qualifies = tt
gain_told core span task tree (Err e) is free small same_task same_tree candidate qualifies = tt
