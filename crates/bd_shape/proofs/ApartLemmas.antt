-- The kids of a new listing stand at one place each, and the order of the places is the one that is meant.
use Rattle.std.proofs.Common.{◌≡◌, ℕ, ◌+◌, ◌<◌, ◌≤◌, Bool, true, false, not, ◌&&◌, ◌||◌, eqb, cond, List, [], ◌∷◌, ◌++◌, length, map, filter, Option, Some, None, slice_get, zero, suc, refl, sym, ap, ◌∙◌, inl, inr, arith}
use Rattle.std.specs.List.{enumerate_from}
use Rattle.std.specs.Option.{option_map}
use Rattle.std.proofs.lemmas.Bool.{and_parts, or_from, or_cases, eqb-true, eq-eqb, ne_eqb, cases_eq}
use Rattle.std.proofs.lemmas.List.{length-map}
use Rattle.std.proofs.lemmas.List.Folds.{list_any-append}
use Rattle.bd_base.specs.Facts.{has}
use Rattle.bd_base.specs.Pairs.{is_before, total_order}
use Rattle.bd_tree.specs.declared.node.Node.{Node}
use Rattle.bd_tree.specs.Convex.{is_member, is_after_some, is_before_some}
use Rattle.bd_shape.specs.Grouped.{is_front, is_back, fronts, backs, grouped_places, is_ordered, are_ordered, is_kept, grouped_order}
use Rattle.bd_shape.specs.Placed.{AreApart, are_placed, is_kid, is_placed, is_placed_pair, placed_order, stands_in}
use Rattle.bd_shape.specs.Restricted.{members, are_before, was_before, restricted_order}
use Rattle.bd_shape.specs.Sides.{AreSides}
use Rattle.bd_shape.specs.declared.place.Place.{Place}
use Rattle.bd_shape.specs.declared.place.Place.TheVariants.{Outside, Group}
use Rattle.bd_shape.specs.declared.sides.Sides.{Sides}
use Rattle.bd_shape.proofs.PartLemmas.{positions}

abbrev pub places_of : List (ℕ × Node) → List Place
places_of ks = map (λ (k : ℕ × Node). Outside k.0) ks

stands_cond : (d : ℕ) (b : Bool) (k : ℕ × Node) (ks : List (ℕ × Node)) → stands_in d (places_of (cond b (k ∷ ks) ks)) ≡ (b && eqb k.0 d || stands_in d (places_of ks))
stands_cond d true k ks = refl
stands_cond d false k ks = refl

and_none : (b : Bool) → (b && false) ≡ false
and_none true = refl
and_none false = refl

-- no kid stands at an earlier place than it is numbered
stands_past : (t : ℕ × Node → Bool) (m d : ℕ) (kids : List Node) → d < m → stands_in d (places_of (filter t (enumerate_from m kids))) ≡ false
stands_past t m d [] lt = refl
stands_past t m d (k ∷ ks) lt =
    stands_cond d (t (m, k)) (m, k) (filter t (enumerate_from (m + 1) ks))
    ∙ or_from _ _ (ap (λ z. t (m, k) && z) (ne_eqb m d (omega arith)) ∙ and_none (t (m, k))) (stands_past t (m + 1) d ks (omega arith))

apart_cond : (bound : ℕ) (b : Bool) (k : ℕ × Node) (ks : List (ℕ × Node)) → k.0 < bound → stands_in k.0 (places_of ks) ≡ false → AreApart bound (places_of ks) → AreApart bound (places_of (cond b (k ∷ ks) ks))
apart_cond bound true k ks lt none a = (lt, none, a)
apart_cond bound false k ks lt none a = a

-- some of the kids stand apart
pub apart_part : (t : ℕ × Node → Bool) (bound m : ℕ) (kids : List Node) → m + length kids ≤ bound → AreApart bound (places_of (filter t (enumerate_from m kids)))
apart_part t bound m [] le = tt
apart_part t bound m (k ∷ ks) le = apart_cond bound (t (m, k)) (m, k) (filter t (enumerate_from (m + 1) ks)) (omega arith) (stands_past t (m + 1) m ks (omega arith)) (apart_part t bound (m + 1) ks (omega arith))

apart_append : (bound : ℕ) (xs ys : List Place) → AreApart bound xs → AreApart bound ys → ((d : ℕ) → stands_in d xs ≡ true → stands_in d ys ≡ false) → AreApart bound (xs ++ ys)
apart_append bound [] ys a b h = b
apart_append bound (Group ∷ xs) ys a b h = apart_append bound xs ys a b h
apart_append bound (Outside d ∷ xs) ys a b h = (
  a.0,
  list_any-append (is_kid d) xs ys ∙ or_from _ _ a.1 (h d (ap (λ z. z || stands_in d xs) (eq-eqb d d refl))),
  apart_append bound xs ys a.2 b (λ e s. h e (ap (λ z. eqb d e || z) s ∙ or_true (eqb d e))),
)
  where
    or_true : (b : Bool) → (b || true) ≡ true
    or_true true = refl
    or_true false = refl

-- a kid isn't in two parts that exclude one another
never_both : (f g : ℕ × Node → Bool) → ((k : ℕ × Node) → f k ≡ true → g k ≡ false) → (m d : ℕ) (kids : List Node) → stands_in d (places_of (filter f (enumerate_from m kids))) ≡ true → stands_in d (places_of (filter g (enumerate_from m kids))) ≡ false
never_both f g apart m d [] e = absurd (cc)
never_both f g apart m d (k ∷ ks) e =
    let fs = filter f (enumerate_from (m + 1) ks) in
    let gs = filter g (enumerate_from (m + 1) ks) in
    let first = sym (stands_cond d (f (m, k)) (m, k) fs) ∙ e in
    stands_cond d (g (m, k)) (m, k) gs
    ∙ elim (or_cases (f (m, k) && eqb m d) (stands_in d (places_of fs)) first) [
      | inl here ↦
          let p = and_parts (f (m, k)) (eqb m d) here in
          let same : m ≡ d = eqb-true m d p.1 in
          or_from _ _ (ap (λ z. z && eqb m d) (apart (m, k) p.0)) (stands_past g (m + 1) d ks (omega (arith, same)))
      | inr later ↦ or_from _ _ (elsewhere later) (never_both f g apart (m + 1) d ks later)
    ]
  where
    elsewhere : stands_in d (places_of (filter f (enumerate_from (m + 1) ks))) ≡ true → (g (m, k) && eqb m d) ≡ false
    elsewhere later = elim (cases_eq m d) [
      | inl same ↦ absurd (let t : false ≡ true = sym (stands_past f (m + 1) d ks (omega (arith, same))) ∙ later in cc)
      | inr ne ↦ ap (λ z. g (m, k) && z) (ne_eqb m d ne) ∙ and_none (g (m, k))
    ]

module _ (ids : List ℕ) (order : List (ℕ × ℕ)) (kids : List Node) where
  abbrev all : List (ℕ × Node)
  all = enumerate_from 0 kids

  excluded : (k : ℕ × Node) → is_front ids order all k ≡ true → is_back ids order all k ≡ false
  excluded k e = by (not (is_member ids k)) (is_after_some order ids all k.0) e
    where
      by : (m a : Bool) → (m && not a) ≡ true → (m && a) ≡ false
      by true true e = absurd (cc)
      by true false e = refl
      by false a e = refl

  -- the places of a grouped block
  pub grouped_apart : AreApart (length kids) (grouped_places ids order all)
  grouped_apart =
      let fs = places_of (fronts ids order all) in
      let bs = places_of (backs ids order all) in
      let f : AreApart (length kids) fs = apart_part (is_front ids order all) (length kids) 0 kids (omega arith) in
      let b : AreApart (length kids) bs = apart_part (is_back ids order all) (length kids) 0 kids (omega arith) in
      apart_append (length kids) (fs ++ Group ∷ []) bs (apart_append (length kids) fs (Group ∷ []) f tt (λ d s. refl)) b (λ d s.
      never_both (is_front ids order all) (is_back ids order all) excluded 0 d kids (sym (only (stands_in d fs)) ∙ sym (list_any-append (is_kid d) fs (Group ∷ [])) ∙ s))
    where
      only : (b : Bool) → (b || (false || false)) ≡ b
      only true = refl
      only false = refl

  pub members_apart : AreApart (length kids) (places_of (members ids all))
  members_apart = apart_part (is_member ids) (length kids) 0 kids (omega arith)

filter_agree : (t u : ℕ × ℕ → Bool) → ((p : ℕ × ℕ) → t p ≡ u p) → (ps : List (ℕ × ℕ)) → filter t ps ≡ filter u ps
filter_agree t u h [] = refl
filter_agree t u h (p ∷ ps) = ap (λ b. cond b (p ∷ filter t ps) (filter t ps)) (h p) ∙ ap (λ (z : List (ℕ × ℕ)). cond (u p) (p ∷ z) z) (filter_agree t u h ps)

-- the order of the places of a grouped block, by the sides of the group
module _ (ids : List ℕ) (order : List (ℕ × ℕ)) (kids : List Node) (sides : Sides) (are : AreSides order ids kids sides) where
  placed_is : (a b : Place) → is_placed order sides a b ≡ is_ordered ids order (enumerate_from 0 kids) a b
  placed_is (Outside c) (Outside d) =
      ap (λ z. is_before order c d || z && has sides.after d) (are.before c)
      ∙ ap (λ z. is_before order c d || is_before_some order ids (enumerate_from 0 kids) c && z) (are.after d)
  placed_is (Outside c) Group = are.before c
  placed_is Group (Outside d) = are.after d
  placed_is Group Group = refl

  placed_are : (a b : Option Place) → are_placed order sides a b ≡ are_ordered ids order (enumerate_from 0 kids) a b
  placed_are None b = refl
  placed_are (Some a) None = refl
  placed_are (Some a) (Some b) = placed_is a b

  pub placed_grouped : (places : List Place) → placed_order order sides places ≡ grouped_order ids order (enumerate_from 0 kids) places
  placed_grouped places = filter_agree (is_placed_pair order sides places) (is_kept ids order (enumerate_from 0 kids) places) (λ p. placed_are (slice_get places p.0) (slice_get places p.1)) (total_order (length places))

-- the order of chosen kids, where there is no group
module _ (order : List (ℕ × ℕ)) (sides : Sides) (none : sides.before ≡ []) where
  abbrev out : ℕ → Place
  out i = Outside i

  get_map : (ps : List ℕ) (i : ℕ) → slice_get (map out ps) i ≡ option_map out (slice_get ps i)
  get_map [] i = refl
  get_map (p ∷ ps) zero = refl
  get_map (p ∷ ps) (suc i) = get_map ps i

  or_nothing : (b : Bool) → (b || false) ≡ b
  or_nothing true = refl
  or_nothing false = refl

  alone : (a b : Option ℕ) → are_placed order sides (option_map out a) (option_map out b) ≡ are_before order a b
  alone None b = refl
  alone (Some i) None = refl
  alone (Some i) (Some j) = ap (λ (z : List ℕ). is_before order i j || has z i && has sides.after j) none ∙ or_nothing (is_before order i j)

  alone_at : (ps : List ℕ) (p : ℕ × ℕ) → is_placed_pair order sides (map out ps) p ≡ was_before order ps p
  alone_at ps p =
      ap (λ (z : Option Place). are_placed order sides z (slice_get (map out ps) p.1)) (get_map ps p.0)
      ∙ ap (λ (z : Option Place). are_placed order sides (option_map out (slice_get ps p.0)) z) (get_map ps p.1)
      ∙ alone (slice_get ps p.0) (slice_get ps p.1)

  out_places : (ks : List (ℕ × Node)) → places_of ks ≡ map out (positions ks)
  out_places [] = refl
  out_places (k ∷ ks) = ap (λ (z : List Place). Outside k.0 ∷ z) (out_places ks)

  pub placed_restricted : (ks : List (ℕ × Node)) → placed_order order sides (places_of ks) ≡ restricted_order order (positions ks)
  placed_restricted ks =
      ap (placed_order order sides) (out_places ks)
      ∙ filter_agree (is_placed_pair order sides (map out (positions ks))) (was_before order (positions ks)) (alone_at (positions ks)) (total_order (length (map out (positions ks))))
      ∙ ap (λ z. filter (was_before order (positions ks)) (total_order z)) (length-map (positions ks) out)
