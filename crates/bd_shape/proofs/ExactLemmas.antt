-- The new order has every pair that the rule names: what is before something else stands earlier in the new listing.
use Rattle.std.proofs.Common.{◌≡◌, ℕ, zero, suc, ◌+◌, ◌<◌, ◌≤◌, Bool, true, false, not, ◌&&◌, ◌||◌, eqb, cond, List, [], ◌∷◌, ◌++◌, length, filter, Option, Some, None, slice_get, refl, sym, ap, ◌∙◌, ◌⊎◌, inl, inr, arith}
use Rattle.std.specs.List.{list_all, enumerate_from}
use Rattle.std.proofs.lemmas.Bool.{and_parts, and_from, or_cases, eqb-true, cases_lt, false_from_ne_true}
use Rattle.std.proofs.lemmas.Option.{slice_get_within}
use Rattle.bd_base.specs.Pairs.{is_before, is_closed, total_order}
use Rattle.bd_tree.specs.declared.node.Node.{Node}
use Rattle.bd_tree.specs.Convex.{is_after_some, is_before_some, is_member, is_aside, are_convex}
use Rattle.bd_tree.specs.Order.{is_order}
use Rattle.bd_tree.proofs.OrderLemmas.{not_before, turn_has}
use Rattle.bd_shape.specs.Grouped.{is_front, is_back, fronts, backs, grouped_places, is_ordered, are_ordered, is_kept, grouped_order}
use Rattle.bd_shape.specs.Restricted.{RestrictsAsTold, are_before, was_before, restricted_order}
use Rattle.bd_shape.specs.declared.place.Place.{Place}
use Rattle.bd_shape.specs.declared.place.Place.TheVariants.{Outside, Group}
use Rattle.bd_shape.proofs.ApartLemmas.{places_of}
use Rattle.bd_shape.proofs.GroupLemmas.{after_on, clear_back}
use Rattle.bd_shape.proofs.OrderLemmas.{all_kept, before_kept}
use Rattle.bd_shape.proofs.PartLemmas.{positions}
use Rattle.bd_shape.proofs.PlaceLemmas.{all_at}

-- a pair that is kept passes
kept_only : (f : ℕ → ℕ → Bool) (ps : List (ℕ × ℕ)) (i j : ℕ) → is_before (filter (λ p. f p.0 p.1) ps) i j ≡ true → f i j ≡ true
kept_only f [] i j e = absurd (cc)
kept_only f (p ∷ ps) i j e = by (f p.0 p.1) refl (kept_only f ps i j) e
  where
    by : (b : Bool) → f p.0 p.1 ≡ b → (is_before (filter (λ p. f p.0 p.1) ps) i j ≡ true → f i j ≡ true) → is_before (cond b (p ∷ filter (λ p. f p.0 p.1) ps) (filter (λ p. f p.0 p.1) ps)) i j ≡ true → f i j ≡ true
    by true is later e = elim (or_cases (eqb p.0 i && eqb p.1 j) (is_before (filter (λ p. f p.0 p.1) ps) i j) e) [
      | inl here ↦
          let same = and_parts (eqb p.0 i) (eqb p.1 j) here in
          ap (λ z. f z j) (sym (eqb-true p.0 i same.0)) ∙ ap (λ z. f p.0 z) (sym (eqb-true p.1 j same.1)) ∙ is
      | inr rest ↦ later rest
    ]
    by false is later e = later e

-- where what passes rises and is in range, the pairs that are kept are those that pass
exact_if : (n : ℕ) (f : ℕ → ℕ → Bool) (i j : ℕ) → (f i j ≡ true → (i < j) × (j < n)) → is_before (filter (λ p. f p.0 p.1) (total_order n)) i j ≡ f i j
exact_if n f i j h = by (f i j) refl
  where
    by : (b : Bool) → f i j ≡ b → is_before (filter (λ p. f p.0 p.1) (total_order n)) i j ≡ f i j
    by true e = let r = h e in before_kept f (total_order n) i j e (turn_has 0 n i j (omega arith) r.0 (let below = r.1 in omega arith)) ∙ sym e
    by false e = false_from_ne_true _ (λ t. let clash : true ≡ false = sym (kept_only f (total_order n) i j t) ∙ e in cc) ∙ sym e

-- some of the kids stand in the old listing order
module _ (t : ℕ × Node → Bool) where
  low : (m : ℕ) (kids : List Node) (i : ℕ) (k : ℕ × Node) → slice_get (filter t (enumerate_from m kids)) i ≡ Some k → m ≤ k.0
  low m [] i k e = absurd (cc)
  low m (kid ∷ kids) i k e = by (t (m, kid)) i (low (m + 1) kids) e
    where
      by : (b : Bool) (i : ℕ) → ((i : ℕ) (k : ℕ × Node) → slice_get (filter t (enumerate_from (m + 1) kids)) i ≡ Some k → m + 1 ≤ k.0) → slice_get (cond b ((m, kid) ∷ filter t (enumerate_from (m + 1) kids)) (filter t (enumerate_from (m + 1) kids))) i ≡ Some k → m ≤ k.0
      by true zero later e =
          let here : Some (m, kid) ≡ Some k = e in
          let same : (let z : ℕ × Node = (m, kid) in z) ≡ k = cc in
          let is : m ≡ k.0 = ap (λ (z : ℕ × Node). z.0) same in
          omega arith
      by true (suc i) later e = let le = later i k e in omega arith
      by false i later e = let le = later i k e in omega arith

  in_turn : (m : ℕ) (kids : List Node) (i j : ℕ) (k l : ℕ × Node) → slice_get (filter t (enumerate_from m kids)) i ≡ Some k → slice_get (filter t (enumerate_from m kids)) j ≡ Some l → k.0 < l.0 → i < j
  in_turn m [] i j k l e f lt = absurd (cc)
  in_turn m (kid ∷ kids) i j k l e f lt = by (t (m, kid)) i j (λ i j e f. in_turn (m + 1) kids i j k l e f lt) e f
    where
      rest : List (ℕ × Node)
      rest = filter t (enumerate_from (m + 1) kids)

      by : (b : Bool) (i j : ℕ) → ((i j : ℕ) → slice_get (filter t (enumerate_from (m + 1) kids)) i ≡ Some k → slice_get (filter t (enumerate_from (m + 1) kids)) j ≡ Some l → i < j) →
          slice_get (cond b ((m, kid) ∷ filter t (enumerate_from (m + 1) kids)) (filter t (enumerate_from (m + 1) kids))) i ≡ Some k → slice_get (cond b ((m, kid) ∷ filter t (enumerate_from (m + 1) kids)) (filter t (enumerate_from (m + 1) kids))) j ≡ Some l → i < j
      by true zero zero later e f =
          let both : Some k ≡ Some l = sym e ∙ f in
          let same : k ≡ l = cc in
          let is : k.0 ≡ l.0 = ap (λ (z : ℕ × Node). z.0) same in
          absurd (omega arith)
      by true zero (suc j) later e f = omega arith
      by true (suc i) zero later e f =
          let le : m + 1 ≤ k.0 = low (m + 1) kids i k e in
          let here : Some (m, kid) ≡ Some l = f in
          let same : (let z : ℕ × Node = (m, kid) in z) ≡ l = cc in
          let is : m ≡ l.0 = ap (λ (z : ℕ × Node). z.0) same in
          absurd (omega arith)
      by true (suc i) (suc j) later e f = let less = later i j e f in omega arith
      by false i j later e f = later i j e f

  pub all_pass : (ks : List (ℕ × Node)) → list_all t (filter t ks) ≡ true
  all_pass [] = refl
  all_pass (k ∷ ks) = by (t k) refl (all_pass ks)
    where
      by : (b : Bool) → t k ≡ b → list_all t (filter t ks) ≡ true → list_all t (cond b (k ∷ filter t ks) (filter t ks)) ≡ true
      by true e a = and_from _ _ e a
      by false e a = a

-- what stands at a position: a kid in front, the group or a kid behind
pub data Stands (fs bs : List (ℕ × Node)) (i : ℕ) (x : Place) : Type 0 where
  front : (k : ℕ × Node) → slice_get fs i ≡ Some k → i < length fs → x ≡ Outside k.0 → Stands fs bs i x
  group : i ≡ length fs → x ≡ Group → Stands fs bs i x
  back : (m : ℕ) (k : ℕ × Node) → slice_get bs m ≡ Some k → i ≡ length fs + 1 + m → x ≡ Outside k.0 → Stands fs bs i x

pub located : (fs bs : List (ℕ × Node)) (i : ℕ) (x : Place) → slice_get (places_of fs ++ Group ∷ [] ++ places_of bs) i ≡ Some x → Stands fs bs i x
located [] bs zero x e =
    let same : Group ≡ x = cc in
    group refl (sym same)
located [] bs (suc i) x e = behind bs i x e
  where
    behind : (bs : List (ℕ × Node)) (i : ℕ) (x : Place) → slice_get (places_of bs) i ≡ Some x → Stands [] bs (suc i) x
    behind [] i x e = absurd (cc)
    behind (k ∷ bs) zero x e = let same : Outside k.0 ≡ x = cc in back 0 k refl refl (sym same)
    behind (k ∷ bs) (suc i) x e = one (behind bs i x e)
      where
        one : Stands [] bs (suc i) x → Stands [] (k ∷ bs) (suc (suc i)) x
        one (front l at lt is) = absurd (cc)
        one (group at is) = absurd (omega arith)
        one (back m l at is_at is) = back (suc m) l at (omega arith) is
located (k ∷ fs) bs zero x e = let same : Outside k.0 ≡ x = cc in front k refl (omega arith) (sym same)
located (k ∷ fs) bs (suc i) x e = one (located fs bs i x e)
  where
    one : Stands fs bs i x → Stands (k ∷ fs) bs (suc i) x
    one (front l at lt is) = front l at (omega arith) is
    one (group at is) = group (omega arith) is
    one (back m l at is_at is) = back m l at (omega arith) is

not_both : (b : Bool) → not b ≡ true → b ≡ true → ⊥
not_both true e f = cc
not_both false e f = cc

module _ (ids : List ℕ) (order : List (ℕ × ℕ)) (kids : List Node) (is : is_order (length kids) order ≡ true) (convex : are_convex order ids (enumerate_from 0 kids) ≡ true) where
  abbrev all : List (ℕ × Node)
  all = enumerate_from 0 kids

  abbrev fs : List (ℕ × Node)
  fs = fronts ids order all

  abbrev bs : List (ℕ × Node)
  bs = backs ids order all

  abbrev places : List Place
  places = grouped_places ids order all

  closed : is_closed order ≡ true
  closed = (and_parts _ (is_closed order) is).1

  rises : (i j : ℕ) → is_before order i j ≡ true → i < j
  rises i j e = elim (cases_lt i j) [
    | inl lt ↦ lt
    | inr le ↦ absurd (let clash : true ≡ false = sym e ∙ not_before (length kids) order i j is le in cc)
  ]

  front_not_after : (i : ℕ) (k : ℕ × Node) → slice_get fs i ≡ Some k → is_after_some order ids all k.0 ≡ true → ⊥
  front_not_after i k at a =
      let passes : is_front ids order all k ≡ true = all_at (is_front ids order all) fs i k (all_pass (is_front ids order all) all) at in
      not_both (is_after_some order ids all k.0) (and_parts (not (is_member ids k)) (not (is_after_some order ids all k.0)) passes).1 a

  back_passes : (i : ℕ) (k : ℕ × Node) → slice_get bs i ≡ Some k → is_back ids order all k ≡ true
  back_passes i k at = all_at (is_back ids order all) bs i k (all_pass (is_back ids order all) all) at

  back_after : (i : ℕ) (k : ℕ × Node) → slice_get bs i ≡ Some k → is_after_some order ids all k.0 ≡ true
  back_after i k at = (and_parts (not (is_member ids k)) (is_after_some order ids all k.0) (back_passes i k at)).1

  asides : (ks : List (ℕ × Node)) → list_all (is_aside order ids all) ks ≡ true → list_all (is_aside order ids all) (filter (is_back ids order all) ks) ≡ true
  asides ks a = all_kept (is_aside order ids all) (is_back ids order all) ks a

  back_not_before : (i : ℕ) (k : ℕ × Node) → slice_get bs i ≡ Some k → is_before_some order ids all k.0 ≡ true → ⊥
  back_not_before i k at b =
      let aside : is_aside order ids all k ≡ true = all_at (is_aside order ids all) bs i k (asides all convex) at in
      not_both (is_after_some order ids all k.0 && is_before_some order ids all k.0) (clear_back ids order closed all k aside (back_passes i k at)) (and_from _ _ (back_after i k at) b)

  abbrev joined : ℕ → ℕ → Type 0
  joined c d = (is_before order c d || is_before_some order ids all c && is_after_some order ids all d) ≡ true

  before_of : (c d : ℕ) → joined c d → (is_before order c d ≡ true) ⊎ ((is_before_some order ids all c ≡ true) × (is_after_some order ids all d ≡ true))
  before_of c d e = elim (or_cases (is_before order c d) (is_before_some order ids all c && is_after_some order ids all d) e) [
    | inl up ↦ inl up
    | inr through ↦ let p = and_parts (is_before_some order ids all c) (is_after_some order ids all d) through in inr (p.0, p.1)
  ]

  outside_is : (x y : Place) (c d : ℕ) → x ≡ Outside c → y ≡ Outside d → is_ordered ids order all x y ≡ true → joined c d
  outside_is x y c d e f o = ap (λ (z : Place). is_ordered ids order all z (Outside d)) (sym e) ∙ ap (λ (z : Place). is_ordered ids order all x z) (sym f) ∙ o

  placed_in_turn : (i j : ℕ) (x y : Place) → Stands fs bs i x → Stands fs bs j y → is_ordered ids order all x y ≡ true → i < j
  placed_in_turn i j x y (front k at lt e) (front l at_l lt_l f) o = elim (before_of k.0 l.0 (outside_is x y k.0 l.0 e f o)) [
    | inl up ↦ in_turn (is_front ids order all) 0 kids i j k l at at_l (rises k.0 l.0 up)
    | inr through ↦ absurd (front_not_after j l at_l through.1)
  ]
  placed_in_turn i j x y (front k at lt e) (group at_l f) o = omega arith
  placed_in_turn i j x y (front k at lt e) (back m l at_l is_l f) o = omega arith
  placed_in_turn i j x y (group at e) (front l at_l lt_l f) o =
      absurd (front_not_after j l at_l (ap (λ (z : Place). is_ordered ids order all z (Outside l.0)) (sym e) ∙ ap (λ (z : Place). is_ordered ids order all x z) (sym f) ∙ o))
  placed_in_turn i j x y (group at e) (group at_l f) o =
      let clash : false ≡ true = ap (λ (z : Place). is_ordered ids order all z Group) (sym e) ∙ ap (λ (z : Place). is_ordered ids order all x z) (sym f) ∙ o in
      absurd (cc)
  placed_in_turn i j x y (group at e) (back m l at_l is_l f) o = omega arith
  placed_in_turn i j x y (back n k at is_k e) (front l at_l lt_l f) o = elim (before_of k.0 l.0 (outside_is x y k.0 l.0 e f o)) [
    | inl up ↦ absurd (front_not_after j l at_l (after_on ids order closed all k.0 l.0 (back_after n k at) up))
    | inr through ↦ absurd (front_not_after j l at_l through.1)
  ]
  placed_in_turn i j x y (back n k at is_k e) (group at_l f) o =
      absurd (back_not_before n k at (ap (λ (z : Place). is_ordered ids order all z Group) (sym e) ∙ ap (λ (z : Place). is_ordered ids order all x z) (sym f) ∙ o))
  placed_in_turn i j x y (back n k at is_k e) (back m l at_l is_l f) o = elim (before_of k.0 l.0 (outside_is x y k.0 l.0 e f o)) [
    | inl up ↦ let less : n < m = in_turn (is_back ids order all) 0 kids n m k l at at_l (rises k.0 l.0 up) in omega arith
    | inr through ↦ absurd (back_not_before n k at through.0)
  ]

  abbrev told : ℕ → ℕ → Bool
  told i j = are_ordered ids order all (slice_get places i) (slice_get places j)

  told_in_turn : (i j : ℕ) (a b : Option Place) → slice_get places i ≡ a → slice_get places j ≡ b → are_ordered ids order all a b ≡ true → (i < j) × (j < length places)
  told_in_turn i j None b e f o = absurd (cc)
  told_in_turn i j (Some x) None e f o = absurd (cc)
  told_in_turn i j (Some x) (Some y) e f o = (placed_in_turn i j x y (located fs bs i x e) (located fs bs j y f) o, slice_get_within places j y f)

  -- the new order has the pairs that the rule names, and no other
  pub grouped_exact : (i j : ℕ) → is_before (grouped_order ids order all places) i j ≡ is_kept ids order all places (i, j)
  grouped_exact i j = exact_if (length places) told i j (λ o. told_in_turn i j (slice_get places i) (slice_get places j) refl refl o)

-- the restricted order has the pairs of the chosen kids, and no other
module _ (order : List (ℕ × ℕ)) (t : ℕ × Node → Bool) (kids : List Node) (is : is_order (length kids) order ≡ true) where
  abbrev chosen : List (ℕ × Node)
  chosen = filter t (enumerate_from 0 kids)

  abbrev olds : List ℕ
  olds = positions chosen

  kid_at : (ks : List (ℕ × Node)) (i p : ℕ) → slice_get (positions ks) i ≡ Some p → (k : ℕ × Node) × (slice_get ks i ≡ Some k) × (k.0 ≡ p)
  kid_at [] i p e = absurd (cc)
  kid_at (k ∷ ks) zero p e = let same : k.0 ≡ p = cc in (k, refl, same)
  kid_at (k ∷ ks) (suc i) p e = kid_at ks i p e

  were_in_turn : (i j : ℕ) (a b : Option ℕ) → slice_get olds i ≡ a → slice_get olds j ≡ b → are_before order a b ≡ true → (i < j) × (j < length olds)
  were_in_turn i j None b e f o = absurd (cc)
  were_in_turn i j (Some p) None e f o = absurd (cc)
  were_in_turn i j (Some p) (Some q) e f o =
      let k = kid_at chosen i p e in
      let l = kid_at chosen j q f in
      let up : p < q = elim (cases_lt p q) [
        | inl lt ↦ lt
        | inr le ↦ absurd (let clash : true ≡ false = sym o ∙ not_before (length kids) order p q is le in cc)
      ] in
      let k_is : k.0.0 ≡ p = k.2 in
      let l_is : l.0.0 ≡ q = l.2 in
      (in_turn t 0 kids i j k.0 l.0 k.1 l.1 (omega arith), slice_get_within olds j q f)

  pub restricted_exact : (i j : ℕ) → is_before (restricted_order order olds) i j ≡ was_before order olds (i, j)
  restricted_exact i j = exact_if (length olds) (λ i j. are_before order (slice_get olds i) (slice_get olds j)) i j (λ o. were_in_turn i j (slice_get olds i) (slice_get olds j) refl refl o)

-- the same of a block, whatever it is
pub restricts_as_told : (node : Node) (ids : List ℕ) → RestrictsAsTold node ids
restricts_as_told node ids own kids order is_block is = restricted_exact order (is_member ids) kids is
