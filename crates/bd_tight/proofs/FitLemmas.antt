-- Where a candidate fits, its sides can be grouped one after the other, and then unordered; and the other way round.
use Rattle.std.proofs.Common.{◌≡◌, ◌≢◌, ℕ, ◌+◌, ◌<◌, ◌≤◌, true, false, not, ◌&&◌, eqb, List, [], ◌∷◌, ◌++◌, length, map, refl, sym, ap, ◌∙◌, inl, inr, arith}
use Rattle.std.specs.List.{list_all}
use Rattle.std.specs.Prelude.{nat_lt}
use Rattle.std.proofs.lemmas.Bool.{and_parts, and_from, both_ways, eq-eqb, eqb-true, false_from_ne_true, not-true, or_cases, or_left, or_right}
use Rattle.bd_base.specs.Facts.{has}
use Rattle.bd_links.proofs.Members.{all_has, subset_from_has, has_from_subset}
use Rattle.bd_tree.specs.declared.node.Node.{Node, Step, Block}
use Rattle.bd_tree.specs.Tree.{id_of, ids_of, greatest, joined}
use Rattle.bd_tree.specs.WellFormed.{IsWellFormed}
use Rattle.bd_tree.proofs.NodeLemmas.{by_node, ids_of-Step, ids_of-Block, id_of-Step, id_of-Block}
use Rattle.bd_tree.proofs.TreeLemmas.{has-append}
use Rattle.bd_shape.specs.Grouped.{CanGroup, HasSide, count_taken, grouped, side_id}
use Rattle.bd_shape.specs.Hull.{between_at}
use Rattle.bd_shape.specs.Kids.{kids_at, convex_at}
use Rattle.bd_shape.specs.Tightened.{right_fresh, both_grouped}
use Rattle.bd_shape.specs.Unordered.{CanUnorder}
use Rattle.bd_shape.proofs.KidLemmas.{is_there, kids_found}
use Rattle.bd_shape.proofs.WholeLemmas as whole
use Rattle.bd_tight.specs.declared.gain.Gain.{Gain}
use Rattle.bd_tight.specs.Candidates.{fits, fresh_of}
use Rattle.bd_tight.specs.Gains.{are_short}
use Rattle.bd_tight.specs.Path.{Frame, filled}
use Rattle.bd_tight.proofs.HullLemmas.{shared}
use Rattle.bd_tight.proofs.SidesLaw.{grouped_formed}

-- a number of a list is no greater than the greatest
below_top : (xs : List ℕ) (q : ℕ) → has xs q ≡ true → q ≤ greatest xs
below_top [] q h = absurd (both_ways false refl h)
below_top (x ∷ xs) q h = elim (or_cases (eqb x q) (has xs q) h) [
  | inl same ↦ omega (arith, eqb-true x q same)
  | inr later ↦ omega (arith, below_top xs q later)
]

-- a node's id is one of its ids, and so are the ids of what stands at the end of a way
own_id : (n : Node) → has (ids_of n) (id_of n) ≡ true
own_id = by_node (λ n. has (ids_of n) (id_of n) ≡ true)
    (λ id a. ap (λ z. has z (id_of (Step id a))) (ids_of-Step id a) ∙ or_left _ _ (eq-eqb id (id_of (Step id a)) (sym (id_of-Step id a))))
    (λ id kids order e. ap (λ z. has z (id_of (Block id kids order))) (ids_of-Block id kids order) ∙ or_left _ _ (eq-eqb id (id_of (Block id kids order)) (sym (id_of-Block id kids order))))

kids_among : (kids : List Node) (q : ℕ) → has (map id_of kids) q ≡ true → has (joined (map ids_of kids)) q ≡ true
kids_among [] q h = absurd (both_ways false refl h)
kids_among (k ∷ ks) q h = has-append (ids_of k) (joined (map ids_of ks)) q ∙ elim (or_cases (eqb (id_of k) q) (has (map id_of ks) q) h) [
  | inl same ↦ or_left _ _ (ap (has (ids_of k)) (sym (eqb-true (id_of k) q same)) ∙ own_id k)
  | inr later ↦ or_right _ _ (kids_among ks q later)
]

on_way : (way : List Frame) (n : Node) (q : ℕ) → has (ids_of n) q ≡ true → has (ids_of (filled way n)) q ≡ true
on_way [] n q h = h
on_way (f ∷ way) n q h = ap (λ z. has z q) (ids_of-Block f.own (f.before ++ filled way n ∷ f.after) f.order) ∙ or_right _ _ (middle f.before (on_way way n q h))
  where
    middle : (xs : List Node) → has (ids_of (filled way n)) q ≡ true → has (joined (map ids_of (xs ++ filled way n ∷ f.after))) q ≡ true
    middle [] e = has-append (ids_of (filled way n)) (joined (map ids_of f.after)) q ∙ or_left _ _ e
    middle (x ∷ xs) e = has-append (ids_of x) (joined (map ids_of (xs ++ filled way n ∷ f.after))) q ∙ or_right _ _ (middle xs e)

module _ (root : Node) (block : ℕ) (well : IsWellFormed root) where
  kid_below : (q : ℕ) → has (kids_at block root) q ≡ true → q < fresh_of root
  kid_below q h =
      let there = is_there block root q h in
      let way = shared root block there.kids there.order well there.found in
      let own : has (map id_of there.kids) q ≡ true = ap (λ z. has z q) (sym (kids_found block root block there.kids there.order there.found)) ∙ h in
      let here : has (ids_of (Block block there.kids there.order)) q ≡ true = ap (λ z. has z q) (ids_of-Block block there.kids there.order) ∙ or_right _ _ (kids_among there.kids q own) in
      let all : has (ids_of root) q ≡ true = ap (λ (n : Node). has (ids_of n) q) way.old_is ∙ on_way way.way (Block block there.kids there.order) q here in
      omega (arith, below_top (ids_of root) q all)

module _ (root : Node) (span : ℕ) (c : Gain) (well : IsWellFormed root) (left : CanGroup root c.block c.left) (right : CanGroup root c.block c.right) where
  abbrev fresh : ℕ
  fresh = fresh_of root

  abbrev first : Node
  first = grouped root c.block c.left fresh

  abbrev free : ℕ
  free = right_fresh c.left fresh

  abbrev both : Node
  both = both_grouped root c.block c.left c.right fresh

  abbrev left_id : ℕ
  left_id = side_id c.left fresh

  abbrev right_id : ℕ
  right_id = side_id c.right free

  -- what a fitting candidate's parts say
  pub record Fit : Type 0 where
    pub short : are_short span c.left c.right ≡ true
    pub convex : convex_at c.block c.right first ≡ true
    pub free : between_at c.block left_id right_id both ≡ false

  pub fit_parts : fits root span c ≡ true → Fit
  fit_parts e =
      let last = and_parts (are_short span c.left c.right && convex_at c.block c.right first) (not (between_at c.block left_id right_id both)) e in
      let front = and_parts (are_short span c.left c.right) (convex_at c.block c.right first) last.0 in
      record { short = front.0; convex = front.1; free = not-true _ last.1 }

  pub fit_from : are_short span c.left c.right ≡ true → CanGroup first c.block c.right → CanUnorder both c.block left_id right_id → fits root span c ≡ true
  fit_from short groups unorders = and_from _ _ (and_from _ _ short groups.convex) (ap not unorders.free)

  module _ (short : are_short span c.left c.right ≡ true) where
    apart : (q : ℕ) → has c.left q ≡ true → has c.right q ≡ false
    apart q h =
        let two = and_parts (list_all (λ x. not (has c.right x)) c.left && not (nat_lt span (length c.left))) (not (nat_lt span (length c.right))) short in
        let one = and_parts (list_all (λ x. not (has c.right x)) c.left) (not (nat_lt span (length c.left))) two.0 in
        not-true _ (all_has (λ x. not (has c.right x)) c.left q one.0 h)

    right_kept : (q : ℕ) → has c.right q ≡ true → has (kids_at c.block first) q ≡ true
    right_kept q h = whole.side root c.block fresh well c.left left q ∙ or_right _ _
        (and_from _ _ (has_from_subset c.right (kids_at c.block root) right.own q h) (ap not (false_from_ne_true (has c.left q) (λ e. both_ways _ (apart q e) h))))

    -- the right side can be grouped once the left one is
    pub right_groups : convex_at c.block c.right first ≡ true → CanGroup first c.block c.right
    right_groups convex = record { some = right.some; own = subset_from_has c.right (kids_at c.block first) right_kept; once = right.once; convex = convex }

    module _ (groups : CanGroup first c.block c.right) where
      once_formed : IsWellFormed first
      once_formed = grouped_formed root c.block c.left fresh well left (omega arith)

      abbrev side_two : HasSide first c.block c.right free both
      side_two = whole.side first c.block free once_formed c.right groups

      right_small : (q : ℕ) → has c.right q ≡ true → q < fresh
      right_small q h = kid_below root c.block well q (has_from_subset c.right (kids_at c.block root) right.own q h)

      left_small : (q : ℕ) → has c.left q ≡ true → q < fresh
      left_small q h = kid_below root c.block well q (has_from_subset c.left (kids_at c.block root) left.own q h)

      left_aside : has c.right left_id ≡ false
      left_aside = at c.left refl
        where
          at : (ids : List ℕ) → c.left ≡ ids → has c.right (side_id ids fresh) ≡ false
          at [] is = absurd (omega (arith, left.some, ap (λ (z : List ℕ). length z) is))
          at (i ∷ []) is = apart i (ap (λ z. has z i) is ∙ or_left _ _ (eq-eqb i i refl))
          at (i ∷ j ∷ more) is = false_from_ne_true (has c.right fresh) (λ e. omega (arith, right_small fresh e))

      left_is : has (kids_at c.block both) left_id ≡ true
      left_is = side_two left_id ∙ or_right _ _ (and_from _ _ (whole.side root c.block fresh well c.left left left_id ∙ or_left _ _ (or_left _ _ (eq-eqb left_id left_id refl))) (ap not left_aside))

      right_is : has (kids_at c.block both) right_id ≡ true
      right_is = side_two right_id ∙ or_left _ _ (or_left _ _ (eq-eqb right_id right_id refl))

      sides_differ : left_id ≢ right_id
      sides_differ e = at c.right refl e
        where
          left_not_free : (xs : List ℕ) → c.left ≡ xs → side_id xs fresh ≡ fresh + count_taken xs → ⊥
          left_not_free [] was eq = omega (arith, left.some, ap (λ (z : List ℕ). length z) was)
          left_not_free (x ∷ []) was eq = omega (arith, eq, left_small x (ap (λ z. has z x) was ∙ or_left _ _ (eq-eqb x x refl)))
          left_not_free (x ∷ y ∷ rest) was eq = omega (arith, eq)

          at : (ids : List ℕ) → c.right ≡ ids → left_id ≡ side_id ids free → ⊥
          at [] is same = omega (arith, right.some, ap (λ (z : List ℕ). length z) is)
          at (i ∷ []) is same = both_ways _ left_aside (ap (has c.right) same ∙ ap (λ z. has z i) is ∙ or_left _ _ (eq-eqb i i refl))
          at (i ∷ j ∷ more) is same = left_not_free c.left refl same

      -- both can be unordered once both are grouped
      pub both_unorder : between_at c.block left_id right_id both ≡ false → CanUnorder both c.block left_id right_id
      both_unorder none = record { first = left_is; second = right_is; apart = sides_differ; free = none }
