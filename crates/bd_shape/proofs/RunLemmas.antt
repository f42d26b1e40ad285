-- What is ordered by way of the group, as a run of positions.
use Rattle.std.proofs.Common.{◌≡◌, ℕ, zero, suc, ◌+◌, ◌-◌, ◌<◌, ◌≤◌, max, Bool, true, false, not, ◌&&◌, ◌||◌, ltb, List, [], ◌∷◌, length, Option, Some, None, slice_get, refl, sym, ap, ◌∙◌, subst, inl, inr, arith}
use Rattle.std.specs.List.{enumerate_from, list_any}
use Rattle.std.specs.Option.{option_map_or}
use Rattle.std.proofs.lemmas.Bool.{and_parts, cases_lt, lt-ltb, le-ltb}
use Rattle.std.proofs.lemmas.Option.{slice_get_past, slice_get_within}
use Rattle.bd_base.specs.Bits.{upto}
use Rattle.bd_base.specs.Facts.{has, plus}
use Rattle.bd_base.proofs.FactLemmas.{has-plus}
use Rattle.bd_base.proofs.RunLemmas.{has_upto_above, has_upto_below, has_upto_in}
use Rattle.bd_tree.specs.declared.node.Node.{Node}
use Rattle.bd_tree.specs.Convex.{is_after_some, is_member}
use Rattle.bd_shape.specs.Grouped.{is_front, is_back, fronts, backs, grouped_places}
use Rattle.bd_shape.specs.Placed.{AreSplit, IsSplitAt, is_put_through, is_through, leads}
use Rattle.bd_shape.specs.Sides.{AreSides}
use Rattle.bd_shape.specs.declared.place.Place.{Place}
use Rattle.bd_shape.specs.declared.place.Place.TheVariants.{Outside, Group}
use Rattle.bd_shape.specs.declared.sides.Sides.{Sides}
use Rattle.bd_shape.proofs.ApartLemmas.{places_of}
use Rattle.bd_shape.proofs.BetweenLemmas.{and_any}
use Rattle.bd_shape.proofs.ExactLemmas.{Stands, front, group, back, located, all_pass}
use Rattle.bd_shape.proofs.PlaceLemmas.{all_at, at_place}
use Rattle.bd_shape.proofs.PlacedLemmas.{at_position}
use Rattle.bd_shape.proofs.TimesLemmas.{not_true}

and_false : (b : Bool) → (b && false) ≡ false
and_false true = refl
and_false false = refl

turned : (a b : Bool) → (a || b) ≡ (b || a)
turned true true = refl
turned true false = refl
turned false true = refl
turned false false = refl

module _ (sides : Sides) (places : List Place) (cut at : ℕ) (first : Place) (split : AreSplit sides places cut) (leading : leads sides first ≡ true) (here : slice_get places at ≡ Some first) where
  abbrev from : ℕ
  from = max cut (at + 1)

  abbrev run : List ℕ
  run = upto from (length places - from)

  abbrev reached : Option Place → Bool
  reached o = option_map_or (λ second. is_through sides first second) o false

  through_at : (q : ℕ) (second : Place) → slice_get places q ≡ Some second → at < q → is_through sides first second ≡ not (ltb q cut)
  through_at q second e lt = by first second (subst (λ (o : Option Place). IsSplitAt sides cut at o) here (split at)) (subst (λ (o : Option Place). IsSplitAt sides cut q o) e (split q)) leading
    where
      by : (x y : Place) → IsSplitAt sides cut at (Some x) → IsSplitAt sides cut q (Some y) → leads sides x ≡ true → is_through sides x y ≡ not (ltb q cut)
      by (Outside c) (Outside d) s t l = ap (λ z. z && has sides.after d) l ∙ t
      by (Outside c) Group s t l = l ∙ sym (ap not (le-ltb q cut (omega (arith, t))))
      by Group (Outside d) s t l = t
      by Group Group s t l = absurd (omega (arith, s, t))

  within : (q : ℕ) → at < q → q < length places → has run q ≡ not (ltb q cut)
  within q up below = elim (cases_lt q cut) [
    | inl less ↦ has_upto_below from (length places - from) q (omega (arith, less)) ∙ sym (ap not (lt-ltb q cut less))
    | inr le ↦ has_upto_in from (length places - from) q (omega (arith, le)) (omega (arith, le)) ∙ sym (ap not (le-ltb q cut le))
  ]

  past : (q : ℕ) → length places ≤ q → has run q ≡ false
  past q le = elim (cases_lt q from) [
    | inl less ↦ has_upto_below from (length places - from) q less
    | inr more ↦ has_upto_above from (length places - from) q (omega (arith, more))
  ]

  run_at : (q : ℕ) → has run q ≡ (ltb at q && reached (slice_get places q))
  run_at q = elim (cases_lt at q) [
    | inl up ↦ elim (cases_lt q (length places)) [
      | inl below ↦
          let second = at_place places q below in
          within q up below ∙ sym (ap (λ z. z && reached (slice_get places q)) (lt-ltb at q up) ∙ ap reached second.1 ∙ through_at q second.0 second.1 up)
      | inr le ↦ past q le ∙ sym (ap (λ (o : Option Place). ltb at q && reached o) (slice_get_past places q le) ∙ and_false (ltb at q))
    ]
    | inr le ↦ has_upto_below from (length places - from) q (omega (arith, le)) ∙ sym (ap (λ z. z && reached (slice_get places q)) (le-ltb at q le))
  ]

  through_by : (q : ℕ) (b : Bool) → list_any (λ (k : ℕ × Place). b && is_put_through sides first q k) (enumerate_from 0 places) ≡ (b && reached (slice_get places q))
  through_by q b = sym (and_any b (is_put_through sides first q) (enumerate_from 0 places)) ∙ ap (λ z. b && z) (at_position (λ (second : Place). is_through sides first second) places q)

  -- the later places that are reached by way of the group are a run
  pub run_put : (row new : List ℕ) → new ≡ plus row run → (q : ℕ) → has new q ≡ (has row q || list_any (λ (k : ℕ × Place). ltb at q && is_put_through sides first q k) (enumerate_from 0 places))
  run_put row new e q =
      ap (λ (z : List ℕ). has z q) e
      ∙ has-plus row run q
      ∙ turned (has run q) (has row q)
      ∙ ap (λ z. has row q || z) (run_at q ∙ sym (through_by q (ltb at q)))

-- in a grouped listing the kids behind the group, and they alone, are after some kid of it
module _ (ids : List ℕ) (order : List (ℕ × ℕ)) (kids : List Node) (sides : Sides) (are : AreSides order ids kids sides) where
  abbrev all : List (ℕ × Node)
  all = enumerate_from 0 kids

  abbrev fs : List (ℕ × Node)
  fs = fronts ids order all

  abbrev bs : List (ℕ × Node)
  bs = backs ids order all

  front_at : (i : ℕ) (k : ℕ × Node) → slice_get fs i ≡ Some k → i < length fs → has sides.after k.0 ≡ not (ltb i (length fs))
  front_at i k at lt =
      let passes : is_front ids order all k ≡ true = all_at (is_front ids order all) fs i k (all_pass (is_front ids order all) all) at in
      are.after k.0 ∙ not_true (is_after_some order ids all k.0) (and_parts (not (is_member ids k)) (not (is_after_some order ids all k.0)) passes).1 ∙ sym (ap not (lt-ltb i (length fs) lt))

  back_at : (i m : ℕ) (k : ℕ × Node) → slice_get bs m ≡ Some k → i ≡ length fs + 1 + m → has sides.after k.0 ≡ not (ltb i (length fs))
  back_at i m k at is =
      let passes : is_back ids order all k ≡ true = all_at (is_back ids order all) bs m k (all_pass (is_back ids order all) all) at in
      are.after k.0 ∙ (and_parts (not (is_member ids k)) (is_after_some order ids all k.0) passes).1 ∙ sym (ap not (le-ltb i (length fs) (omega arith)))

  pub grouped_split : (cut : ℕ) → cut ≡ length fs → AreSplit sides (grouped_places ids order all) cut
  grouped_split cut e q = subst (λ z. IsSplitAt sides z q (slice_get (grouped_places ids order all) q)) (sym e) (by (slice_get (grouped_places ids order all) q) refl)
    where
      stands : (x : Place) → Stands fs bs q x → IsSplitAt sides (length fs) q (Some x)
      stands x (front k at lt is) = subst (λ (z : Place). IsSplitAt sides (length fs) q (Some z)) (sym is) (front_at q k at lt)
      stands x (group at is) = subst (λ (z : Place). IsSplitAt sides (length fs) q (Some z)) (sym is) at
      stands x (back m k at place is) = subst (λ (z : Place). IsSplitAt sides (length fs) q (Some z)) (sym is) (back_at q m k at place)

      by : (o : Option Place) → slice_get (grouped_places ids order all) q ≡ o → IsSplitAt sides (length fs) q o
      by None e = tt
      by (Some x) e = stands x (located fs bs q x e)

-- without a group the listing is cut at its end
module _ (sides : Sides) (none : sides.after ≡ []) (ks : List (ℕ × Node)) (places : List Place) (is : places ≡ places_of ks) where
  no_group : (ks : List (ℕ × Node)) (q : ℕ) → slice_get (places_of ks) q ≡ Some Group → ⊥
  no_group [] q e = cc
  no_group (k ∷ ks) zero e = cc
  no_group (k ∷ ks) (suc q) e = no_group ks q e

  pub alone_split : (cut : ℕ) → cut ≡ length places → AreSplit sides places cut
  alone_split cut e q = by (slice_get places q) refl
    where
      by : (o : Option Place) → slice_get places q ≡ o → IsSplitAt sides cut q o
      by None at = tt
      by (Some (Outside d)) at = ap (λ (z : List ℕ). has z d) none ∙ sym (ap not (lt-ltb q cut (omega (arith, slice_get_within places q (Outside d) at))))
      by (Some Group) at = absurd (no_group ks q (ap (λ (z : List Place). slice_get z q) (sym is) ∙ at))
