-- Where two sides can be grouped and then unordered.
use Rattle.std.proofs.Common.{◌≡◌, ◌≢◌, ℕ, ◌+◌, ◌<◌, ◌≤◌, Bool, true, false, not, ◌&&◌, ◌||◌, eqb, cond, List, [], ◌∷◌, ◌++◌, length, map, Option, Some, None, IfNone, IfSome, refl, sym, ap, ◌∙◌, subst, inl, inr, arith}
use Rattle.std.specs.Option.{is_some, option_map_or}
use Rattle.std.proofs.lemmas.Bool.{and_parts, and_from, and_right, or_cases, or_left, or_right, eq-eqb, eqb-true, ltb-true, cases_Bool, both_ways, false_from_ne_true}
use Rattle.bd_base.specs.Facts.{has, is_subset}
use Rattle.bd_links.proofs.Members.{subset_from_has, has_from_subset}
use Rattle.bd_tree.specs.declared.node.Node.{Node, Step, Block}
use Rattle.bd_tree.specs.declared.node.Node.TheViews.{outs-Step, outs-Block}
use Rattle.bd_tree.specs.Tree.{id_of, ids_of, greatest, joined, find_in, first_some}
use Rattle.bd_tree.specs.WellFormed.{are_distinct}
use Rattle.bd_tree.proofs.NodeLemmas.{Each, by_node, ids_of-Block}
use Rattle.bd_tree.proofs.TreeLemmas.{find_in-Step, find_in-Block, has-append}
use Rattle.bd_shape.specs.Kids.{kids_in_layer, kid_ids, kids_at, convex_at}
use Rattle.bd_shape.specs.Hull.{between_at}
use Rattle.bd_shape.specs.Grouped.{CanGroup, HasSide, count_taken, grouped, side_id}
use Rattle.bd_shape.specs.Unordered.{CanUnorder, unordered}
use Rattle.bd_shape.specs.Tightened.{both_grouped, right_fresh, tightened}
use Rattle.plan_core.specs.Sides.{CanTighten, are_sides, are_two, has_sides, is_block_at}
use Rattle.plan_core.proofs.MeasureLemmas.{clash, distinct_parts, some_same, is_there_at_all, own_among}

-- a number of a list is no greater than the greatest
pub below_top : (xs : List ℕ) (q : ℕ) → has xs q ≡ true → q ≤ greatest xs
below_top [] q h = absurd (both_ways false refl h)
below_top (x ∷ xs) q h = elim (or_cases (eqb x q) (has xs q) h) [
  | inl same ↦ omega (arith, eqb-true x q same)
  | inr later ↦ omega (arith, below_top xs q later)
]

-- a kid of a block of the tree is a node of the tree
module _ (block q : ℕ) where
  abbrev HasKid : Node → Type 0
  HasKid n = (m : Node) → find_in block n ≡ Some m → has (kid_ids m) q ≡ true → has (ids_of n) q ≡ true

  no_kid : (own a : ℕ) → has (kid_ids (Step own a)) q ≡ true → ⊥
  no_kid own a h = both_ways false refl (sym (ap (λ z. has (kids_in_layer z) q) (outs-Step own a)) ∙ h)

  step_has : (own a : ℕ) → HasKid (Step own a)
  step_has own a m f h = at (eqb own block) (sym (find_in-Step block own a) ∙ f)
    where
      at : (b : Bool) → cond b (Some (Step own a)) None ≡ Some m → has (ids_of (Step own a)) q ≡ true
      at true g = absurd (no_kid own a (subst (λ z. has (kid_ids z) q ≡ true) (sym (some_same _ _ g)) h))
      at false g = absurd (is_there_at_all _ g)

  kids_have : (ks : List Node) → Each HasKid ks → (m : Node) → first_some (map (find_in block) ks) ≡ Some m → has (kid_ids m) q ≡ true → has (joined (map ids_of ks)) q ≡ true
  kids_have [] e m f h = absurd (is_there_at_all _ f)
  kids_have (k ∷ ks) e m f h = has-append (ids_of k) (joined (map ids_of ks)) q ∙ at (find_in block k) refl f (kids_have ks e.1 m)
    where
      at : (o : Option Node) → find_in block k ≡ o → first_some (o ∷ map (find_in block) ks) ≡ Some m → (first_some (map (find_in block) ks) ≡ Some m → has (kid_ids m) q ≡ true → has (joined (map ids_of ks)) q ≡ true) →
          (has (ids_of k) q || has (joined (map ids_of ks)) q) ≡ true
      at None is g rest = or_right _ _ (rest g h)
      at (Some n) is g rest = or_left _ _ (e.0 m (is ∙ g) h)

  block_has : (own : ℕ) (kids : List Node) (order : List (ℕ × ℕ)) → Each HasKid kids → HasKid (Block own kids order)
  block_has own kids order e m f h = ap (λ z. has z q) (ids_of-Block own kids order) ∙ or_right _ _ (at (eqb own block) (sym (find_in-Block block own kids order) ∙ f))
    where
      among : has (map id_of kids) q ≡ true → has (joined (map ids_of kids)) q ≡ true
      among i = elim (cases_Bool (has (joined (map ids_of kids)) q)) [
        | inl here ↦ here
        | inr out ↦ absurd (clash _ i (own_among kids q out))
      ]

      at : (b : Bool) → cond b (Some (Block own kids order)) (first_some (map (find_in block) kids)) ≡ Some m → has (joined (map ids_of kids)) q ≡ true
      at true g = among (sym (ap (λ z. has (kids_in_layer z) q) (outs-Block own kids order)) ∙ subst (λ z. has (kid_ids z) q ≡ true) (sym (some_same _ _ g)) h)
      at false g = kids_have kids e m g h

  has_kid : (n : Node) → HasKid n
  has_kid = by_node HasKid step_has block_has

  pub kid_below : (root : Node) → has (kids_at block root) q ≡ true → q ≤ greatest (ids_of root)
  kid_below root h = at (find_in block root) refl h
    where
      at : (o : Option Node) → find_in block root ≡ o → has (option_map_or kid_ids o []) q ≡ true → q ≤ greatest (ids_of root)
      at None is g = absurd (both_ways false refl g)
      at (Some m) is g = below_top (ids_of root) q (has_kid root m is g)

module _ (root : Node) (block : ℕ) (left right : List ℕ) (next : ℕ) (there : has_sides root block left right ≡ true) where
  abbrev first : Node
  first = grouped root block left next

  abbrev both : Node
  both = both_grouped root block left right next

  abbrev free : ℕ
  free = right_fresh left next

  abbrev left_id : ℕ
  left_id = side_id left next

  abbrev right_id : ℕ
  right_id = side_id right free

  left_there : is_subset left (kids_at block root) ≡ true
  left_there = (and_parts (is_block_at block root) (is_subset left (kids_at block root)) (and_parts (is_block_at block root && is_subset left (kids_at block root)) (is_subset right (kids_at block root)) there).0).1

  right_there : is_subset right (kids_at block root) ≡ true
  right_there = (and_parts (is_block_at block root && is_subset left (kids_at block root)) (is_subset right (kids_at block root)) there).1

  -- one side's part of what makes two
  pub record IsTwo : Type 0 where
    pub left_some : 0 < length left
    pub right_some : 0 < length right
    pub left_once : are_distinct left ≡ true
    pub right_once : are_distinct right ≡ true
    pub unlike : (q : ℕ) → has left q ≡ true → has right q ≡ false

  pub two_from : are_two left right ≡ true → IsTwo
  two_from e =
      let outer = and_parts (Rattle.std.specs.Prelude.nat_lt 0 (length left) && Rattle.std.specs.Prelude.nat_lt 0 (length right)) (are_distinct (left ++ right)) e in
      let inner = and_parts (Rattle.std.specs.Prelude.nat_lt 0 (length left)) (Rattle.std.specs.Prelude.nat_lt 0 (length right)) outer.0 in
      let parts = distinct_parts left right outer.1 in
      record { left_some = ltb-true 0 (length left) inner.0; right_some = ltb-true 0 (length right) inner.1; left_once = parts.0; right_once = parts.1; unlike = parts.2 }

  pub can_left : IsTwo → convex_at block left root ≡ true → CanGroup root block left
  can_left two convex = record { some = two.left_some; own = left_there; once = two.left_once; convex = convex }

  module _ (two : IsTwo) (side : HasSide root block left next first) where
    right_apart : (q : ℕ) → has right q ≡ true → has left q ≡ false
    right_apart q h = false_from_ne_true (has left q) (λ e. clash (has right q) h (two.unlike q e))

    right_kept : (q : ℕ) → has right q ≡ true → has (kids_at block first) q ≡ true
    right_kept q h = side q ∙ or_right _ _ (and_from _ _ (has_from_subset right (kids_at block root) right_there q h) (ap not (right_apart q h)))

    pub can_right : convex_at block right first ≡ true → CanGroup first block right
    can_right convex = record { some = two.right_some; own = subset_from_has right (kids_at block first) right_kept; once = two.right_once; convex = convex }

    module _ (fresh : greatest (ids_of root) < next) (side_two : HasSide first block right free both) where
      right_small : (q : ℕ) → has right q ≡ true → q < next
      right_small q h = omega (arith, kid_below block q root (has_from_subset right (kids_at block root) right_there q h), fresh)

      left_small : (q : ℕ) → has left q ≡ true → q < next
      left_small q h = omega (arith, kid_below block q root (has_from_subset left (kids_at block root) left_there q h), fresh)

      -- the left side's id is none of the right ones
      left_aside : has right left_id ≡ false
      left_aside = at left refl
        where
          at : (ids : List ℕ) → left ≡ ids → has right (side_id ids next) ≡ false
          at [] is = absurd (omega (arith, two.left_some, ap (λ (z : List ℕ). length z) is))
          at (i ∷ []) is = two.unlike i (ap (λ z. has z i) is ∙ or_left _ _ (eq-eqb i i refl))
          at (i ∷ j ∷ more) is = false_from_ne_true (has right next) (λ e. omega (arith, right_small next e))

      left_is : has (kids_at block both) left_id ≡ true
      left_is = side_two left_id ∙ or_right _ _ (and_from _ _ (side left_id ∙ or_left _ _ (or_left _ _ (eq-eqb left_id left_id refl))) (ap not left_aside))

      right_is : has (kids_at block both) right_id ≡ true
      right_is = side_two right_id ∙ or_left _ _ (or_left _ _ (eq-eqb right_id right_id refl))

      left_below : left_id < free + 1
      left_below = at left refl
        where
          at : (ids : List ℕ) → left ≡ ids → side_id ids next < next + count_taken ids + 1
          at [] is = omega arith
          at (i ∷ []) is = omega (arith, left_small i (ap (λ z. has z i) is ∙ or_left _ _ (eq-eqb i i refl)))
          at (i ∷ j ∷ more) is = omega arith

      sides_differ : left_id ≢ right_id
      sides_differ e = at right refl e
        where
          at : (ids : List ℕ) → right ≡ ids → left_id ≡ side_id ids free → ⊥
          at [] is same = omega (arith, two.right_some, ap (λ (z : List ℕ). length z) is)
          at (i ∷ []) is same = clash (has right left_id) (ap (has right) same ∙ ap (λ z. has z i) is ∙ or_left _ _ (eq-eqb i i refl)) left_aside
          at (i ∷ j ∷ more) is same = left_not_free left refl same
            where
              left_not_free : (xs : List ℕ) → left ≡ xs → side_id xs next ≡ next + count_taken xs → ⊥
              left_not_free [] was eq = omega (arith, two.left_some, ap (λ (z : List ℕ). length z) was)
              left_not_free (x ∷ []) was eq = omega (arith, eq, left_small x (ap (λ z. has z x) was ∙ or_left _ _ (eq-eqb x x refl)))
              left_not_free (x ∷ y ∷ rest) was eq = omega (arith, eq)

      pub can_unorder : between_at block left_id right_id both ≡ false → CanUnorder both block left_id right_id
      can_unorder none = record { first = left_is; second = right_is; apart = sides_differ; free = none }

-- the same by ids and trees that are equal
module _ (block i k j l : ℕ) (s t : Node) (first : i ≡ k) (second : j ≡ l) (tree : s ≡ t) where
  pub same_between : between_at block i j s ≡ between_at block k l t
  same_between = ap (λ z. between_at block z j s) first ∙ ap (λ z. between_at block k z s) second ∙ ap (λ (z : Node). between_at block k l z) tree

  pub same_unordered : unordered s block i j ≡ unordered t block k l
  same_unordered = ap (λ z. unordered s block z j) first ∙ ap (λ z. unordered s block k z) second ∙ ap (λ (z : Node). unordered z block k l) tree

  pub same_can : CanUnorder t block k l → CanUnorder s block i j
  same_can h = subst (λ (z : Node). CanUnorder z block i j) (sym tree) (subst (λ z. CanUnorder t block z j) (sym first) (subst (λ z. CanUnorder t block k z) (sym second) h))

-- the test of the sides, by its parts
pub all_hold : (a b c d : Bool) → a ≡ true → b ≡ true → c ≡ true → d ≡ false → (a && b && c && not d) ≡ true
all_hold a b c d e f g h = and_from _ _ (and_from _ _ (and_from _ _ e f) g) (ap not h)

pub last_fails : (a b c d : Bool) → d ≡ true → (a && b && c && not d) ≡ false
last_fails a b c d e = and_right (a && b && c) (not d) (ap not e)

-- by what an option is
pub of_none : {A : Type 0} (o : Option A) (P : Type 0) → o ≡ None → IfNone o P → P
of_none o P e h = subst (λ z. IfNone z P) e h

pub of_some : {A : Type 0} (o : Option A) (x : A) (P : A → Type 0) → o ≡ Some x → IfSome o P → P x
of_some o x P e h = subst (λ z. IfSome z P) e h

-- the same by trees and next ids that are equal
module _ (block : ℕ) (left right : List ℕ) (s t : Node) (m n : ℕ) (tree : s ≡ t) (next : m ≡ n) where
  pub same_sides : are_sides s block left right m ≡ are_sides t block left right n
  same_sides = ap (λ (z : Node). are_sides z block left right m) tree ∙ ap (λ z. are_sides t block left right z) next

  pub same_tightened : tightened s block left right m ≡ tightened t block left right n
  same_tightened = ap (λ (z : Node). tightened z block left right m) tree ∙ ap (λ z. tightened t block left right z) next

  pub same_can_tighten : CanTighten t block left right n → CanTighten s block left right m
  same_can_tighten h = subst (λ (z : Node). CanTighten z block left right m) (sym tree) (subst (λ z. CanTighten t block left right z) (sym next) h)
