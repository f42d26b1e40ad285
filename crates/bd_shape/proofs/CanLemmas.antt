-- When kids may be grouped or unordered, by the block that is found.
use Rattle.std.proofs.Common.{◌≡◌, ◌≢◌, ◌↔◌, ℕ, ◌<◌, Bool, true, false, not, ◌&&◌, eqb, List, [], ◌∷◌, length, Option, Some, None, IsTrue, refl, sym, ap, ◌∙◌, arith}
use Rattle.std.specs.Option.{option_map_or}
use Rattle.std.proofs.lemmas.Bool.{and_parts, and_from, eq-eqb, ne_eqb}
use Rattle.bd_base.specs.Facts.{has, is_subset}
use Rattle.bd_tree.specs.declared.node.Node.{Node}
use Rattle.bd_tree.specs.Convex.{is_convex_in}
use Rattle.bd_tree.specs.Tree.{find_in}
use Rattle.bd_tree.specs.WellFormed.{are_distinct}
use Rattle.bd_shape.specs.Grouped.{CanGroup}
use Rattle.bd_shape.specs.Hull.{has_between}
use Rattle.bd_shape.specs.Kids.{kid_ids, kids_at, are_kids}
use Rattle.bd_shape.specs.Unordered.{CanUnorder}

not_at_none : (b : Bool) → not b ≡ true → b ≡ false
not_at_none true e = absurd (cc)
not_at_none false e = refl

not_none : (b : Bool) → b ≡ false → not b ≡ true
not_none true e = absurd (cc)
not_none false e = refl

module _ (root : Node) (block : ℕ) where
  module _ (none : find_in block root ≡ None) where
    no_kids : kids_at block root ≡ []
    no_kids = ap (λ (o : Option Node). option_map_or kid_ids o []) none

    none_own : (ids : List ℕ) → 0 < length ids → is_subset ids (kids_at block root) ≡ true → ⊥
    none_own [] lt e = omega arith
    none_own (i ∷ ids) lt e =
        let h : has (kids_at block root) i ≡ true = (and_parts (has (kids_at block root) i) (is_subset ids (kids_at block root)) e).0 in
        let no_one : false ≡ true = sym (ap (λ (z : List ℕ). has z i) no_kids) ∙ h in
        cc

    pub cannot_group : (ids : List ℕ) → CanGroup root block ids → ⊥
    cannot_group ids can = none_own ids can.some can.own

    pub cannot_unorder : (i j : ℕ) → CanUnorder root block i j → ⊥
    cannot_unorder i j can = let no_one : false ≡ true = sym (ap (λ (z : List ℕ). has z i) no_kids) ∙ can.first in cc

  module _ (node : Node) (found : find_in block root ≡ Some node) where
    own_is : kids_at block root ≡ kid_ids node
    own_is = ap (λ (o : Option Node). option_map_or kid_ids o []) found

    pub group_if : (ids : List ℕ) → 0 < length ids → are_kids node ids ≡ true → is_convex_in node ids ≡ true → CanGroup root block ids
    group_if ids some own convex =
        let parts = and_parts (is_subset ids (kid_ids node)) (are_distinct ids) own in
        record {
          some = some;
          own = ap (is_subset ids) own_is ∙ parts.0;
          once = parts.1;
          convex = ap (λ (o : Option Node). option_map_or (λ (n : Node). is_convex_in n ids) o true) found ∙ convex;
        }

    pub group_only : (ids : List ℕ) → CanGroup root block ids → (0 < length ids) × (are_kids node ids ≡ true) × (is_convex_in node ids ≡ true)
    group_only ids can = (
      can.some,
      and_from _ _ (ap (is_subset ids) (sym own_is) ∙ can.own) can.once,
      sym (ap (λ (o : Option Node). option_map_or (λ (n : Node). is_convex_in n ids) o true) found) ∙ can.convex,
    )

    pub unorder_if : (i j : ℕ) → i ≢ j → is_subset (i ∷ j ∷ []) (kid_ids node) ≡ true → has_between node i j ≡ false → CanUnorder root block i j
    unorder_if i j apart own free =
        let one = and_parts (has (kid_ids node) i) (has (kid_ids node) j && true) own in
        let two = and_parts (has (kid_ids node) j) true one.1 in
        record {
          first = ap (λ (z : List ℕ). has z i) own_is ∙ one.0;
          second = ap (λ (z : List ℕ). has z j) own_is ∙ two.0;
          apart = apart;
          free = ap (λ (o : Option Node). option_map_or (λ (n : Node). has_between n i j) o false) found ∙ free;
        }

    pub unorder_only : (i j : ℕ) → CanUnorder root block i j → (is_subset (i ∷ j ∷ []) (kid_ids node) ≡ true) × (has_between node i j ≡ false)
    unorder_only i j can = (
      and_from _ _ (ap (λ (z : List ℕ). has z i) (sym own_is) ∙ can.first) (and_from _ _ (ap (λ (z : List ℕ). has z j) (sym own_is) ∙ can.second) refl),
      sym (ap (λ (o : Option Node). option_map_or (λ (n : Node). has_between n i j) o false) found) ∙ can.free,
    )

    some_ids : (ids : List ℕ) → not (eqb (length ids) 0) ≡ true → 0 < length ids
    some_ids [] e = absurd (cc)
    some_ids (i ∷ ids) e = omega arith

    ids_some : (ids : List ℕ) → 0 < length ids → not (eqb (length ids) 0) ≡ true
    ids_some ids lt = ap not (ne_eqb (length ids) 0 (omega arith))

    -- by what is tested of the node
    pub group_by : (ids : List ℕ) (b : Bool) → b ≡ (not (eqb (length ids) 0) && are_kids node ids && is_convex_in node ids) → IsTrue b ↔ CanGroup root block ids
    group_by ids b told = (
      λ t.
          let all = and_parts (not (eqb (length ids) 0) && are_kids node ids) (is_convex_in node ids) (sym told ∙ t) in
          let front = and_parts (not (eqb (length ids) 0)) (are_kids node ids) all.0 in
          group_if ids (some_ids ids front.0) front.1 all.1,
      λ can.
          let parts = group_only ids can in
          told ∙ and_from _ _ (and_from _ _ (ids_some ids parts.0) parts.1) parts.2,
    )

    unlike : (i j : ℕ) → not (eqb i j) ≡ true → i ≢ j
    unlike i j e same = let t : not true ≡ true = ap not (sym (eq-eqb i j same)) ∙ e in cc

    pub unorder_by : (i j : ℕ) (b : Bool) → b ≡ (not (eqb i j) && is_subset (i ∷ j ∷ []) (kid_ids node) && not (has_between node i j)) → IsTrue b ↔ CanUnorder root block i j
    unorder_by i j b told = (
      λ t.
          let all = and_parts (not (eqb i j) && is_subset (i ∷ j ∷ []) (kid_ids node)) (not (has_between node i j)) (sym told ∙ t) in
          let front = and_parts (not (eqb i j)) (is_subset (i ∷ j ∷ []) (kid_ids node)) all.0 in
          unorder_if i j (unlike i j front.0) front.1 (not_at_none (has_between node i j) all.1),
      λ can.
          let parts = unorder_only i j can in
          told ∙ and_from _ _ (and_from _ _ (ap not (ne_eqb i j can.apart)) parts.0) (not_none (has_between node i j) parts.1),
    )
