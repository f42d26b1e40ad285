-- A kid by itself, and the hull of two kids, can be grouped: each is convex, and has kids of the block, none twice.
use Rattle.std.proofs.Common.{◌≡◌, ℕ, zero, suc, ◌+◌, ◌<◌, Bool, true, false, not, ◌&&◌, ◌||◌, eqb, cond, List, [], ◌∷◌, filter, length, map, Option, Some, slice_get, refl, sym, ap, ◌∙◌, subst, ◌⊎◌, inl, inr, arith}
use Rattle.std.specs.List.{list_all, enumerate_from}
use Rattle.std.specs.Option.{option_map_or}
use Rattle.std.proofs.lemmas.Bool.{and_parts, and_from, both_ways, cases_Bool, eq-eqb, eqb-true, false_from_ne_true, not-true, or_cases, or_left, or_right}
use Rattle.bd_base.specs.Facts.{has, is_subset}
use Rattle.bd_base.specs.Pairs.{is_before}
use Rattle.bd_links.proofs.Members.{In, here, there, any_some, some_any, all_from, subset_from_has}
use Rattle.bd_tree.specs.declared.node.Node.{Node, Block}
use Rattle.bd_tree.specs.declared.node.Node.TheViews.{outs-Block}
use Rattle.bd_tree.specs.Convex.{is_member, is_after_some, is_before_some, is_aside, are_convex, convex_in_layer, is_convex_in}
use Rattle.bd_tree.specs.Order.{is_order}
use Rattle.bd_tree.specs.Tree.{id_of, find_in}
use Rattle.bd_tree.specs.WellFormed.{IsWellFormed, are_distinct, has_orders}
use Rattle.bd_tree.proofs.NodeLemmas.{has_orders-Block}
use Rattle.bd_shape.specs.Grouped.{CanGroup}
use Rattle.bd_shape.specs.Hull.{is_between, is_in_hull, hull_in_layer, hull_of}
use Rattle.bd_shape.specs.Kids.{kids_at, convex_at}
use Rattle.bd_shape.proofs.KidLemmas.{kids_found}
use Rattle.bd_shape.proofs.TimesLemmas.{kids_distinct}
use Rattle.bd_tight.proofs.CandidateLemmas.{in_filter}
use Rattle.bd_tight.proofs.KidLemmas.{IsKid, the_kid, in_numbered, numbered_in}
use Rattle.bd_tight.proofs.PairExact.{orders_below, strict, joins}
use Rattle.bd_tight.proofs.PathLemmas.{SharesWay, the_way}

abbrev Placed : Type 0
Placed = ℕ × Node

abbrev placed_id : Placed → ℕ
placed_id k = id_of k.1

-- some of the kids, by their ids
pub picked : (t : Placed → Bool) (xs : List Placed) (q : ℕ) → has (map placed_id (filter t xs)) q ≡ true → (m : Placed) × In m xs × (t m ≡ true) × (id_of m.1 ≡ q)
picked t [] q h = absurd (both_ways false refl h)
picked t (x ∷ xs) q h = one (t x) refl h (picked t xs q)
  where
    one : (b : Bool) → t x ≡ b → has (map placed_id (cond b (x ∷ filter t xs) (filter t xs))) q ≡ true → (has (map placed_id (filter t xs)) q ≡ true → (m : Placed) × In m xs × (t m ≡ true) × (id_of m.1 ≡ q)) →
        (m : Placed) × In m (x ∷ xs) × (t m ≡ true) × (id_of m.1 ≡ q)
    one true e h rest = elim (or_cases (eqb (id_of x.1) q) (has (map placed_id (filter t xs)) q) h) [
      | inl same ↦ (x, here, e, eqb-true (id_of x.1) q same)
      | inr later ↦ let r = rest later in (r.0, there r.1, r.2, r.3)
    ]
    one false e h rest = let r = rest h in (r.0, there r.1, r.2, r.3)

named : (m : Placed) (xs : List Placed) → In m xs → has (map placed_id xs) (id_of m.1) ≡ true
named m [] i = elim i [ ]
named m (x ∷ xs) here = or_left _ _ (eq-eqb (id_of x.1) (id_of x.1) refl)
named m (x ∷ xs) (there i) = or_right _ _ (named m xs i)

pub named_at : (kids : List Node) (q : ℕ) (n : Node) → slice_get kids q ≡ Some n → has (map id_of kids) (id_of n) ≡ true
named_at [] q n e = absurd (cc)
named_at (k ∷ ks) zero n e = let same : k ≡ n = cc in or_left _ _ (eq-eqb (id_of k) (id_of n) (ap id_of same))
named_at (k ∷ ks) (suc q) n e = or_right _ _ (named_at ks q n e)

picked_once : (t : Placed → Bool) (m : ℕ) (kids : List Node) → are_distinct (map id_of kids) ≡ true → are_distinct (map placed_id (filter t (enumerate_from m kids))) ≡ true
picked_once t m [] d = refl
picked_once t m (k ∷ ks) d =
    let p = and_parts (not (has (map id_of ks) (id_of k))) (are_distinct (map id_of ks)) d in
    one (t (m, k)) (not-true _ p.0) (picked_once t (m + 1) ks p.1)
  where
    one : (b : Bool) → has (map id_of ks) (id_of k) ≡ false → are_distinct (map placed_id (filter t (enumerate_from (m + 1) ks))) ≡ true →
        are_distinct (map placed_id (cond b ((m, k) ∷ filter t (enumerate_from (m + 1) ks)) (filter t (enumerate_from (m + 1) ks)))) ≡ true
    one true out rest = and_from _ _
        (ap not (false_from_ne_true (has (map placed_id (filter t (enumerate_from (m + 1) ks))) (id_of k)) (λ h.
        let r = picked t (enumerate_from (m + 1) ks) (id_of k) h in
        let n = in_numbered (m + 1) ks r.0 r.1 in
        both_ways _ out (ap (has (map id_of ks)) (sym r.3) ∙ named_at ks n.0 r.0.1 n.2))))
        rest
    one false out rest = rest

has_some : (xs : List ℕ) (q : ℕ) → has xs q ≡ true → 0 < length xs
has_some [] q h = absurd (both_ways false refl h)
has_some (x ∷ xs) q h = omega arith

only_one : (x y : ℕ) → (eqb x y || false) ≡ true → y ≡ x
only_one x y e = elim (or_cases (eqb x y) false e) [ inl h ↦ sym (eqb-true x y h) | inr h ↦ absurd (both_ways false refl h) ]

module _ (root : Node) (block : ℕ) (kids : List Node) (order : List (ℕ × ℕ)) (well : IsWellFormed root) (found : find_in block root ≡ Some (Block block kids order)) where
  abbrev listing : List Placed
  listing = enumerate_from 0 kids

  pub ids_once : are_distinct (map id_of kids) ≡ true
  ids_once = kids_distinct root block block kids order well.distinct found

  pub kids_are : kids_at block root ≡ map id_of kids
  kids_are = kids_found block root block kids order found

  abbrev pub shared : SharesWay (Block block kids order) (Block block kids order) root (Rattle.bd_shape.specs.Remade.remade root block (λ k o. Block block k o))
  shared = the_way root block (λ k o. Block block k o) kids order well found

  is : is_order (length (map has_orders kids)) order ≡ true
  is = (and_parts (list_all (λ k. k) (map has_orders kids)) _ (sym (has_orders-Block block kids order) ∙ orders_below shared.way (Block block kids order) (ap has_orders (sym shared.old_is) ∙ well.orders))).1

  no_loop : (x : ℕ) → is_before order x x ≡ true → ⊥
  no_loop x e = both_ways _ (strict (length (map has_orders kids)) order is x) e

  leads : (x y z : ℕ) → is_before order x y ≡ true → is_before order y z ≡ true → is_before order x z ≡ true
  leads = joins (length (map has_orders kids)) order is

  -- a kid by its id
  module _ (i : ℕ) (own : has (map id_of kids) i ≡ true) where
    abbrev kid : IsKid i kids
    kid = the_kid i kids ids_once own

    abbrev place : ℕ
    place = kid.at

    kid_id : id_of kid.node ≡ i
    kid_id = eqb-true (id_of kid.node) i (ap (λ (o : Option Node). option_map_or (λ (n : Node). eqb (id_of n) i) o false) (sym kid.stands) ∙ kid.alone place ∙ eq-eqb place place refl)

    kid_in : In (place, kid.node) listing
    kid_in = let z : 0 + place ≡ place = omega arith in subst (λ w. In (w, kid.node) listing) z (numbered_in 0 kids place kid.node kid.stands)

    at_place : (m : Placed) → In m listing → i ≡ id_of m.1 → m.0 ≡ place
    at_place m n same =
        let r = in_numbered 0 kids m n in
        let at : m.0 ≡ r.0 = omega (arith, r.1) in
        at ∙ eqb-true r.0 place (sym (kid.alone r.0) ∙ ap (λ (o : Option Node). option_map_or (λ (n : Node). eqb (id_of n) i) o false) r.2 ∙ eq-eqb (id_of m.1) i (sym same))

    after_only : (k : ℕ) → is_after_some order (i ∷ []) listing k ≡ true → is_before order place k ≡ true
    after_only k e =
        let r = any_some (λ (m : Placed). is_member (i ∷ []) m && is_before order m.0 k) listing e in
        let p = and_parts (is_member (i ∷ []) r.0) (is_before order r.0.0 k) r.2 in
        ap (λ z. is_before order z k) (sym (at_place r.0 r.1 (sym (only_one i (id_of r.0.1) p.0)))) ∙ p.1

    before_only : (k : ℕ) → is_before_some order (i ∷ []) listing k ≡ true → is_before order k place ≡ true
    before_only k e =
        let r = any_some (λ (m : Placed). is_member (i ∷ []) m && is_before order k m.0) listing e in
        let p = and_parts (is_member (i ∷ []) r.0) (is_before order k r.0.0) r.2 in
        ap (is_before order k) (sym (at_place r.0 r.1 (sym (only_one i (id_of r.0.1) p.0)))) ∙ p.1

    member_here : is_member (i ∷ []) (place, kid.node) ≡ true
    member_here = or_left _ _ (eq-eqb i (id_of kid.node) (sym kid_id))

    after_from : (k : ℕ) → is_before order place k ≡ true → is_after_some order (i ∷ []) listing k ≡ true
    after_from k e = some_any (λ (m : Placed). is_member (i ∷ []) m && is_before order m.0 k) (place, kid.node) listing kid_in (and_from _ _ member_here e)

    before_from : (k : ℕ) → is_before order k place ≡ true → is_before_some order (i ∷ []) listing k ≡ true
    before_from k e = some_any (λ (m : Placed). is_member (i ∷ []) m && is_before order k m.0) (place, kid.node) listing kid_in (and_from _ _ member_here e)

    convex_here : (ids : List ℕ) → are_convex order ids listing ≡ true → convex_at block ids root ≡ true
    convex_here ids e =
        ap (λ (o : Option Node). option_map_or (λ (node : Node). is_convex_in node ids) o true) found
        ∙ ap (convex_in_layer ids) (outs-Block block kids order)
        ∙ e

    -- the kid by itself
    pub alone_groups : CanGroup root block (i ∷ [])
    alone_groups = record {
      some = omega arith;
      own = and_from _ _ (ap (λ z. has z i) kids_are ∙ own) refl;
      once = refl;
      convex = convex_here (i ∷ []) (all_from (is_aside order (i ∷ []) listing) listing (λ k n.
          or_right _ _ (ap not (false_from_ne_true _ (λ e.
          let p = and_parts (is_after_some order (i ∷ []) listing k.0) (is_before_some order (i ∷ []) listing k.0) e in
          no_loop place (leads place k.0 place (after_only k.0 p.0) (before_only k.0 p.1)))))));
    }

  module _ (i j : ℕ) (own_i : has (map id_of kids) i ≡ true) (own_j : has (map id_of kids) j ≡ true) where
    abbrev a : ℕ
    a = place i own_i

    abbrev b : ℕ
    b = place j own_j

    abbrev inside : Placed → Bool
    inside = is_in_hull order i j listing

    abbrev hull : List ℕ
    hull = map placed_id (filter inside listing)

    -- what a member is after or before, one of the two is
    after_member : (m : Placed) → In m listing → inside m ≡ true → (k : ℕ) → is_before order m.0 k ≡ true → (is_before order a k ≡ true) ⊎ (is_before order b k ≡ true)
    after_member m n is_in k e = elim (or_cases (is_member (i ∷ j ∷ []) m || is_between order i j listing m.0) (is_between order j i listing m.0) is_in) [
      | inl first ↦ elim (or_cases (is_member (i ∷ j ∷ []) m) (is_between order i j listing m.0) first) [
        | inl member ↦ elim (or_cases (eqb i (id_of m.1)) (eqb j (id_of m.1) || false) member) [
          | inl one ↦ inl (ap (λ z. is_before order z k) (sym (at_place i own_i m n (eqb-true i (id_of m.1) one))) ∙ e)
          | inr two ↦ inr (ap (λ z. is_before order z k) (sym (at_place j own_j m n (sym (only_one j (id_of m.1) two)))) ∙ e)
        ]
        | inr between ↦ let p = and_parts (is_after_some order (i ∷ []) listing m.0) (is_before_some order (j ∷ []) listing m.0) between in inl (leads a m.0 k (after_only i own_i m.0 p.0) e)
      ]
      | inr between ↦ let p = and_parts (is_after_some order (j ∷ []) listing m.0) (is_before_some order (i ∷ []) listing m.0) between in inr (leads b m.0 k (after_only j own_j m.0 p.0) e)
    ]

    before_member : (m : Placed) → In m listing → inside m ≡ true → (k : ℕ) → is_before order k m.0 ≡ true → (is_before order k a ≡ true) ⊎ (is_before order k b ≡ true)
    before_member m n is_in k e = elim (or_cases (is_member (i ∷ j ∷ []) m || is_between order i j listing m.0) (is_between order j i listing m.0) is_in) [
      | inl first ↦ elim (or_cases (is_member (i ∷ j ∷ []) m) (is_between order i j listing m.0) first) [
        | inl member ↦ elim (or_cases (eqb i (id_of m.1)) (eqb j (id_of m.1) || false) member) [
          | inl one ↦ inl (ap (is_before order k) (sym (at_place i own_i m n (eqb-true i (id_of m.1) one))) ∙ e)
          | inr two ↦ inr (ap (is_before order k) (sym (at_place j own_j m n (sym (only_one j (id_of m.1) two)))) ∙ e)
        ]
        | inr between ↦ let p = and_parts (is_after_some order (i ∷ []) listing m.0) (is_before_some order (j ∷ []) listing m.0) between in inr (leads k m.0 b e (before_only j own_j m.0 p.1))
      ]
      | inr between ↦ let p = and_parts (is_after_some order (j ∷ []) listing m.0) (is_before_some order (i ∷ []) listing m.0) between in inl (leads k m.0 a e (before_only i own_i m.0 p.1))
    ]

    -- a member by its id stands where the picked one does
    member_is : (m : Placed) → In m listing → has hull (id_of m.1) ≡ true → (w : Placed) × In w listing × (inside w ≡ true) × (m.0 ≡ w.0)
    member_is m n h =
        let r = picked inside listing (id_of m.1) h in
        let c = in_numbered 0 kids m n in
        let own = named_at kids c.0 m.1 c.2 in
        (r.0, r.1, r.2, at_place (id_of m.1) own m n refl ∙ sym (at_place (id_of m.1) own r.0 r.1 (sym r.3)))

    after_hull : (k : ℕ) → is_after_some order hull listing k ≡ true → (is_before order a k ≡ true) ⊎ (is_before order b k ≡ true)
    after_hull k e =
        let r = any_some (λ (m : Placed). is_member hull m && is_before order m.0 k) listing e in
        let p = and_parts (is_member hull r.0) (is_before order r.0.0 k) r.2 in
        let w = member_is r.0 r.1 p.0 in
        after_member w.0 w.1 w.2 k (ap (λ z. is_before order z k) (sym w.3) ∙ p.1)

    before_hull : (k : ℕ) → is_before_some order hull listing k ≡ true → (is_before order k a ≡ true) ⊎ (is_before order k b ≡ true)
    before_hull k e =
        let r = any_some (λ (m : Placed). is_member hull m && is_before order k m.0) listing e in
        let p = and_parts (is_member hull r.0) (is_before order k r.0.0) r.2 in
        let w = member_is r.0 r.1 p.0 in
        before_member w.0 w.1 w.2 k (ap (is_before order k) (sym w.3) ∙ p.1)

    first_between : (k : Placed) → is_before order a k.0 ≡ true → is_before order k.0 b ≡ true → inside k ≡ true
    first_between k x y = or_left _ _ (or_right _ _ (and_from _ _ (after_from i own_i k.0 x) (before_from j own_j k.0 y)))

    second_between : (k : Placed) → is_before order b k.0 ≡ true → is_before order k.0 a ≡ true → inside k ≡ true
    second_between k x y = or_right _ _ (and_from _ _ (after_from j own_j k.0 x) (before_from i own_i k.0 y))

    between_two : (k : Placed) → is_after_some order hull listing k.0 ≡ true → is_before_some order hull listing k.0 ≡ true → inside k ≡ true
    between_two k x y = elim (after_hull k.0 x) [
      | inl from_a ↦ elim (before_hull k.0 y) [ inl to_a ↦ absurd (no_loop a (leads a k.0 a from_a to_a)) | inr to_b ↦ first_between k from_a to_b ]
      | inr from_b ↦ elim (before_hull k.0 y) [ inl to_a ↦ second_between k from_b to_a | inr to_b ↦ absurd (no_loop b (leads b k.0 b from_b to_b)) ]
    ]

    hull_convex : are_convex order hull listing ≡ true
    hull_convex = all_from (is_aside order hull listing) listing (λ k n. elim (cases_Bool (is_after_some order hull listing k.0 && is_before_some order hull listing k.0)) [
      | inl both ↦ let p = and_parts (is_after_some order hull listing k.0) (is_before_some order hull listing k.0) both in or_left _ _ (named k (filter inside listing) (in_filter inside k listing n (between_two k p.0 p.1)))
      | inr other ↦ or_right _ _ (ap not other)
    ])

    hull_own : is_subset hull (kids_at block root) ≡ true
    hull_own = subset_from_has hull (kids_at block root) (λ q h.
        let r = picked inside listing q h in
        let n = in_numbered 0 kids r.0 r.1 in
        ap (λ z. has z q) kids_are ∙ ap (has (map id_of kids)) (sym r.3) ∙ named_at kids n.0 r.0.1 n.2)

    hull_some : 0 < length hull
    hull_some =
        let k = kid i own_i in
        let first : inside (a, k.node) ≡ true = or_left _ _ (or_left _ _ (or_left _ _ (eq-eqb i (id_of k.node) (sym (kid_id i own_i))))) in
        has_some hull (id_of k.node) (named (a, k.node) (filter inside listing) (in_filter inside (a, k.node) listing (kid_in i own_i) first))

    -- the hull of two kids
    pub hull_groups : CanGroup root block (hull_of (Block block kids order) i j)
    hull_groups = subst (CanGroup root block) (sym (ap (hull_in_layer i j) (outs-Block block kids order)))
        (record { some = hull_some; own = hull_own; once = picked_once inside 0 kids ids_once; convex = convex_here i own_i hull hull_convex })
