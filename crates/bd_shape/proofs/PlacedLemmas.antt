-- An order that is made row by row: where old kids stand now, and what a row holds.
use Rattle.std.proofs.Common.{◌≡◌, ℕ, zero, suc, ◌+◌, ◌-◌, ◌<◌, ◌≤◌, Bool, true, false, ◌&&◌, ◌||◌, ltb, eqb, cond, List, [], ◌∷◌, ◌++◌, length, map, filter, get_or, drop, Option, Some, None, slice_get, refl, sym, ap, ◌∙◌, subst, inl, inr, append_assoc, arith}
use Rattle.std.specs.List.{list_any, enumerate_from}
use Rattle.std.specs.Option.{option_map_or, option_or}
use Rattle.std.proofs.lemmas.Bool.{or_parts, eqb-true, eq-eqb, ne_eqb, cases_eq, cases_lt, lt-ltb, le-ltb}
use Rattle.std.proofs.lemmas.List.{drop_all, drop_more}
use Rattle.std.proofs.lemmas.List.Elements.{filter-append}
use Rattle.std.proofs.lemmas.Option.{slice_get_past, slice_get-get_or}
use Rattle.bd_base.specs.Bits.{upto}
use Rattle.bd_base.specs.Facts.{IsBelowAll, IsRising, has}
use Rattle.bd_base.specs.Pairs.{after_of, before_each, in_turn}
use Rattle.bd_base.proofs.MeetLemmas.{filter_by}
use Rattle.bd_base.proofs.RowLemmas.{before_by_row}
use Rattle.bd_base.proofs.RunLemmas.{has_upto_below, has_upto_in}
use Rattle.bd_shape.specs.Placed.{AreApart, AreSpots, IsLow, are_placed, is_kid, is_placed_pair, is_put_through, is_spot, is_through, leads, stands_in, was_ordered, was_put}
use Rattle.bd_shape.specs.declared.place.Place.{Place}
use Rattle.bd_shape.specs.declared.place.Place.TheVariants.{Outside, Group}
use Rattle.bd_shape.specs.declared.sides.Sides.{Sides}
use Rattle.bd_shape.proofs.BetweenLemmas.{and_any, any_agree}

-- the last position, counted from a number on, at which the kid stands
abbrev pub spot_from : List Place → ℕ → ℕ → Option ℕ
spot_from [] from d = None
spot_from (place ∷ places) from d = option_or (spot_from places (from + 1) d) (cond (is_kid d place) (Some from) None)

-- one place more that is written down
pub spot_more : (s old : Option ℕ) (b : Bool) (at : ℕ) → option_or s (cond b (Some at) old) ≡ option_or (option_or s (cond b (Some at) None)) old
spot_more None old true at = refl
spot_more None old false at = refl
spot_more (Some x) old b at = refl

no_spot : (places : List Place) (from d : ℕ) → stands_in d places ≡ false → spot_from places from d ≡ None
no_spot [] from d e = refl
no_spot (place ∷ places) from d e =
    let parts = or_parts (is_kid d place) (stands_in d places) e in
    ap (λ z. option_or z (cond (is_kid d place) (Some from) None)) (no_spot places (from + 1) d parts.1) ∙ ap (λ z. cond z (Some from) None) parts.0

never_at : (places : List Place) (d q : ℕ) → stands_in d places ≡ false → option_map_or (is_kid d) (slice_get places q) false ≡ false
never_at [] d q e = refl
never_at (place ∷ places) d zero e = (or_parts (is_kid d place) (stands_in d places) e).0
never_at (place ∷ places) d (suc q) e = never_at places d q (or_parts (is_kid d place) (stands_in d places) e).1

or_none : (s : Option ℕ) → option_or s None ≡ s
or_none None = refl
or_none (Some x) = refl

-- no spot is below the number from which they are counted
spot_past : (places : List Place) (from d z : ℕ) → z < from → option_map_or (λ b. eqb b z) (spot_from places from d) false ≡ false
spot_past [] from d z lt = refl
spot_past (place ∷ places) from d z lt = either (spot_from places (from + 1) d) (is_kid d place) (spot_past places (from + 1) d z (omega arith))
  where
    either : (s : Option ℕ) (b : Bool) → option_map_or (λ b. eqb b z) s false ≡ false → option_map_or (λ b. eqb b z) (option_or s (cond b (Some from) None)) false ≡ false
    either None true e = ne_eqb from z (omega arith)
    either None false e = refl
    either (Some x) b e = e

apart_rest : (bound : ℕ) (place : Place) (places : List Place) → AreApart bound (place ∷ places) → AreApart bound places
apart_rest bound (Outside c) places a = a.2
apart_rest bound Group places a = a

low_first : (bound : ℕ) (place : Place) (places : List Place) → AreApart bound (place ∷ places) → IsLow bound place
low_first bound (Outside c) places a = a.0
low_first bound Group places a = tt

apart_here : (bound d : ℕ) (place : Place) (places : List Place) → AreApart bound (place ∷ places) → is_kid d place ≡ true → stands_in d places ≡ false
apart_here bound d (Outside c) places a e = ap (λ z. stands_in z places) (sym (eqb-true c d e)) ∙ a.1
apart_here bound d Group places a e = absurd (cc)

-- one place more is written down
module _ (places : List Place) (at : ℕ) (d0 : Place) (lt : at < length places) where
  abbrev rest_of : List Place
  rest_of = drop (at + 1) places

  left_is : drop at places ≡ get_or places at d0 ∷ rest_of
  left_is = drop_more places at d0 lt

  pub apart_more : (bound : ℕ) → AreApart bound (drop at places) → AreApart bound rest_of
  apart_more bound a = apart_rest bound (get_or places at d0) rest_of (subst (AreApart bound) left_is a)

  pub low_here : (bound : ℕ) → AreApart bound (drop at places) → IsLow bound (get_or places at d0)
  low_here bound a = low_first bound (get_or places at d0) rest_of (subst (AreApart bound) left_is a)

  pub spots_more : (spots new : List (Option ℕ)) (n : ℕ) → n ≡ at → ((d : ℕ) → get_or new d None ≡ cond (is_kid d (get_or places at d0)) (Some n) (get_or spots d None)) →
      ((d : ℕ) → option_or (spot_from (drop at places) at d) (get_or spots d None) ≡ spot_from places 0 d) → (d : ℕ) → option_or (spot_from rest_of (at + 1) d) (get_or new d None) ≡ spot_from places 0 d
  spots_more spots new n same put so_far d =
      let place = get_or places at d0 in
      ap (option_or (spot_from rest_of (at + 1) d)) (put d ∙ ap (λ z. cond (is_kid d place) (Some z) (get_or spots d None)) same)
      ∙ spot_more (spot_from rest_of (at + 1) d) (get_or spots d None) (is_kid d place) at
      ∙ ap (λ (z : List Place). option_or (spot_from z at d) (get_or spots d None)) (sym left_is)
      ∙ so_far d

-- the spot of a kid is where it stands
module _ (bound d : ℕ) where
  spot_at : (places : List Place) (from q : ℕ) → AreApart bound places → option_map_or (λ b. eqb b (from + q)) (spot_from places from d) false ≡ option_map_or (is_kid d) (slice_get places q) false
  spot_at [] from q a = refl
  spot_at (place ∷ places) from q a = by_kid (is_kid d place) refl (λ q. spot_at places (from + 1) q (apart_rest bound place places a)) q
    where
      by_kid : (b : Bool) → is_kid d place ≡ b → ((q : ℕ) → option_map_or (λ b. eqb b (from + 1 + q)) (spot_from places (from + 1) d) false ≡ option_map_or (is_kid d) (slice_get places q) false) → (q : ℕ) → option_map_or (λ b. eqb b (from + q)) (option_or (spot_from places (from + 1) d) (cond b (Some from) None)) false ≡ option_map_or (is_kid d) (slice_get (place ∷ places) q) false
      by_kid true e rest zero =
          let none : spot_from places (from + 1) d ≡ None = no_spot places (from + 1) d (apart_here bound d place places a e) in
          ap (λ (z : Option ℕ). option_map_or (λ b. eqb b (from + 0)) (option_or z (Some from)) false) none ∙ eq-eqb from (from + 0) (omega arith) ∙ sym e
      by_kid true e rest (suc q) =
          let none : spot_from places (from + 1) d ≡ None = no_spot places (from + 1) d (apart_here bound d place places a e) in
          ap (λ (z : Option ℕ). option_map_or (λ b. eqb b (from + suc q)) (option_or z (Some from)) false) none ∙ ne_eqb from (from + suc q) (omega arith) ∙ sym (never_at places d q (apart_here bound d place places a e))
      by_kid false e rest zero =
          ap (λ (z : Option ℕ). option_map_or (λ b. eqb b (from + 0)) z false) (or_none (spot_from places (from + 1) d)) ∙ spot_past places (from + 1) d (from + 0) (omega arith) ∙ sym e
      by_kid false e rest (suc q) =
          let more : from + suc q ≡ from + 1 + q = omega arith in
          ap (λ (z : Option ℕ). option_map_or (λ b. eqb b (from + suc q)) z false) (or_none (spot_from places (from + 1) d))
          ∙ ap (λ z. option_map_or (λ b. eqb b z) (spot_from places (from + 1) d) false) more
          ∙ rest q

  pub is_spot_at : (places : List Place) (spots : List (Option ℕ)) (q : ℕ) → AreApart bound places → ((e : ℕ) → get_or spots e None ≡ spot_from places 0 e) → is_spot spots d q ≡ option_map_or (is_kid d) (slice_get places q) false
  is_spot_at places spots q a s =
      let zero_is : q ≡ 0 + q = omega arith in
      ap (λ (z : Option ℕ). option_map_or (λ b. eqb b q) z false) (s d) ∙ ap (λ z. option_map_or (λ b. eqb b z) (spot_from places 0 d) false) zero_is ∙ spot_at places 0 q a

-- a table in which every place is written down
pub all_spots : (bound at : ℕ) (places : List Place) (spots : List (Option ℕ)) → AreApart bound places → length places ≤ at → ((d : ℕ) → option_or (spot_from (drop at places) at d) (get_or spots d None) ≡ spot_from places 0 d) → AreSpots places spots
all_spots bound at places spots apart le made d q =
    is_spot_at bound d places spots q apart (λ e. ap (λ (z : List Place). option_or (spot_from z at e) (get_or spots e None)) (sym (drop_all at places le)) ∙ made e)

-- the element at a position, told by all
module _ {X : Type 0} (t : X → Bool) where
  past_none : (xs : List X) (m z : ℕ) → z < m → list_any (λ (k : ℕ × X). eqb k.0 z && t k.1) (enumerate_from m xs) ≡ false
  past_none [] m z lt = refl
  past_none (x ∷ xs) m z lt = ap (λ b. b && t x || list_any (λ (k : ℕ × X). eqb k.0 z && t k.1) (enumerate_from (m + 1) xs)) (ne_eqb m z (omega arith)) ∙ past_none xs (m + 1) z (omega arith)

  numbered_at : (xs : List X) (m q : ℕ) → list_any (λ (k : ℕ × X). eqb k.0 (m + q) && t k.1) (enumerate_from m xs) ≡ option_map_or t (slice_get xs q) false
  numbered_at [] m q = refl
  numbered_at (x ∷ xs) m zero =
      ap (λ b. b && t x || list_any (λ (k : ℕ × X). eqb k.0 (m + 0) && t k.1) (enumerate_from (m + 1) xs)) (eq-eqb m (m + 0) (omega arith))
      ∙ ap (λ b. t x || b) (past_none xs (m + 1) (m + 0) (omega arith))
      ∙ last (t x)
    where
      last : (b : Bool) → (b || false) ≡ b
      last true = refl
      last false = refl
  numbered_at (x ∷ xs) m (suc q) =
      let more : m + suc q ≡ m + 1 + q = omega arith in
      ap (λ b. b && t x || list_any (λ (k : ℕ × X). eqb k.0 (m + suc q) && t k.1) (enumerate_from (m + 1) xs)) (ne_eqb m (m + suc q) (omega arith))
      ∙ ap (λ z. list_any (λ (k : ℕ × X). eqb k.0 z && t k.1) (enumerate_from (m + 1) xs)) more
      ∙ numbered_at xs (m + 1) q

  pub at_position : (xs : List X) (q : ℕ) → list_any (λ (k : ℕ × X). eqb k.0 q && t k.1) (enumerate_from 0 xs) ≡ option_map_or t (slice_get xs q) false
  at_position xs q = let zero_is : q ≡ 0 + q = omega arith in ap (λ z. list_any (λ (k : ℕ × X). eqb k.0 z && t k.1) (enumerate_from 0 xs)) zero_is ∙ numbered_at xs 0 q

any_eqb : (xs : List ℕ) (e : ℕ) → list_any (λ d. eqb e d) xs ≡ has xs e
any_eqb [] e = refl
any_eqb (x ∷ xs) e = ap (λ b. b || list_any (λ d. eqb e d) xs) (turned e x) ∙ ap (λ b. eqb x e || b) (any_eqb xs e)
  where
    turned : (a b : ℕ) → eqb a b ≡ eqb b a
    turned a b = elim (cases_eq a b) [ inl same ↦ eq-eqb a b same ∙ sym (eq-eqb b a (sym same)) | inr ne ↦ ne_eqb a b ne ∙ sym (ne_eqb b a (λ e. ne (sym e))) ]

never : {X : Type 0} (xs : List X) → list_any (λ x. false) xs ≡ false
never [] = refl
never (x ∷ xs) = never xs

-- what a row holds
module _ (order : List (ℕ × ℕ)) (sides : Sides) (places : List Place) (spots : List (Option ℕ)) (are : AreSpots places spots) where
  was_at : ℕ → Option Place → Bool
  was_at c o = option_map_or (λ second. was_ordered order (Outside c) second) o false

  through_at : Place → Option Place → Bool
  through_at first o = option_map_or (λ second. is_through sides first second) o false

  old_by : (c q : ℕ) (o : Option Place) → slice_get places q ≡ o → list_any (λ d. option_map_or (is_kid d) o false) (after_of order c) ≡ option_map_or (λ second. was_ordered order (Outside c) second) o false
  old_by c q None e = never (after_of order c)
  old_by c q (Some (Outside d)) e = any_eqb (after_of order c) d ∙ sym (before_by_row order c d)
  old_by c q (Some Group) e = never (after_of order c)

  old_at : (c q : ℕ) (b : Bool) → list_any (λ d. b && is_spot spots d q) (after_of order c) ≡ (b && option_map_or (λ second. was_ordered order (Outside c) second) (slice_get places q) false)
  old_at c q b =
      sym (and_any b (λ d. is_spot spots d q) (after_of order c))
      ∙ ap (λ z. b && z) (any_agree _ _ (λ d. are d q) (after_of order c) ∙ old_by c q (slice_get places q) refl)

  through_by : (first : Place) (q : ℕ) (b : Bool) → list_any (λ (k : ℕ × Place). b && is_put_through sides first q k) (enumerate_from 0 places) ≡ (b && option_map_or (λ second. is_through sides first second) (slice_get places q) false)
  through_by first q b =
      sym (and_any b (is_put_through sides first q) (enumerate_from 0 places))
      ∙ ap (λ z. b && z) (at_position (λ (second : Place). is_through sides first second) places q)

  gather : (b x y : Bool) → (false || b && x || b && y) ≡ (b && (x || y))
  gather true x y = refl
  gather false x y = refl

  gather_one : (b y : Bool) → (false || b && y) ≡ (b && y)
  gather_one b y = refl

  placed_at : (first : Place) (o : Option Place) → (option_map_or (λ second. was_ordered order first second) o false || option_map_or (λ second. is_through sides first second) o false) ≡ are_placed order sides (Some first) o
  placed_at first None = refl
  placed_at first (Some second) = refl

  row_outside : (c q : ℕ) (b : Bool) → (false || list_any (λ d. b && is_spot spots d q) (after_of order c) || list_any (λ (k : ℕ × Place). b && is_put_through sides (Outside c) q k) (enumerate_from 0 places)) ≡ (b && are_placed order sides (Some (Outside c)) (slice_get places q))
  row_outside c q b =
      ap (λ z. z || list_any (λ (k : ℕ × Place). b && is_put_through sides (Outside c) q k) (enumerate_from 0 places)) (old_at c q b)
      ∙ ap (λ z. b && option_map_or (λ second. was_ordered order (Outside c) second) (slice_get places q) false || z) (through_by (Outside c) q b)
      ∙ gather b (option_map_or (λ second. was_ordered order (Outside c) second) (slice_get places q) false) (option_map_or (λ second. is_through sides (Outside c) second) (slice_get places q) false)
      ∙ ap (λ z. b && z) (placed_at (Outside c) (slice_get places q))

  group_at : (o : Option Place) → option_map_or (λ second. is_through sides Group second) o false ≡ are_placed order sides (Some Group) o
  group_at None = refl
  group_at (Some second) = refl

  row_group : (q : ℕ) (b : Bool) → (false || false || list_any (λ (k : ℕ × Place). b && is_put_through sides Group q k) (enumerate_from 0 places)) ≡ (b && are_placed order sides (Some Group) (slice_get places q))
  row_group q b = through_by Group q b ∙ ap (λ z. b && z) (group_at (slice_get places q))

  pub row_by : (first : Place) (at q : ℕ) → (false || was_put order spots at first q || list_any (λ (k : ℕ × Place). ltb at q && is_put_through sides first q k) (enumerate_from 0 places)) ≡ (ltb at q && are_placed order sides (Some first) (slice_get places q))
  row_by (Outside c) at q = row_outside c q (ltb at q)
  row_by Group at q = row_group q (ltb at q)

  -- a row as it is made
  pub row_made : (a at : ℕ) (d : Place) (row put new : List ℕ) → a < length places → at ≡ a → row ≡ [] → ((q : ℕ) → has put q ≡ (has row q || was_put order spots at (get_or places a d) q)) →
      ((q : ℕ) → has new q ≡ (has put q || list_any (λ (k : ℕ × Place). ltb at q && is_put_through sides (get_or places a d) q k) (enumerate_from 0 places))) →
      (q : ℕ) → has new q ≡ (ltb a q && are_placed order sides (slice_get places a) (slice_get places q))
  row_made a at d row put new lt same empty old more q =
      let first = get_or places a d in
      let rest = list_any (λ (k : ℕ × Place). ltb at q && is_put_through sides first q k) (enumerate_from 0 places) in
      more q
      ∙ ap (λ z. z || rest) (old q ∙ ap (λ (z : List ℕ). has z q || was_put order spots at first q) empty)
      ∙ row_by first at q
      ∙ ap (λ z. ltb z q && are_placed order sides (Some first) (slice_get places q)) same
      ∙ ap (λ (z : Option Place). ltb a q && are_placed order sides z (slice_get places q)) (sym (slice_get-get_or places a d lt))

  abbrev passes : ℕ × ℕ → Bool
  passes p = is_placed_pair order sides places p

  below_upto : (x a k : ℕ) → x < a → IsBelowAll x (upto a k)
  below_upto x a zero lt = tt
  below_upto x a (suc k) lt = (lt, below_upto x (a + 1) k (omega arith))

  rising_upto : (a k : ℕ) → IsRising (upto a k)
  rising_upto a zero = tt
  rising_upto a (suc k) = (below_upto a (a + 1) k (omega arith), rising_upto (a + 1) k)

  row_filter : (a j k : ℕ) → filter passes (before_each a j k) ≡ map (λ b. (a, b)) (filter (λ b. passes (a, b)) (upto j k))
  row_filter a j zero = refl
  row_filter a j (suc k) = one (passes (a, j)) (row_filter a (j + 1) k)
    where
      one : (c : Bool) → filter passes (before_each a (j + 1) k) ≡ map (λ b. (a, b)) (filter (λ b. passes (a, b)) (upto (j + 1) k)) → cond c ((a, j) ∷ filter passes (before_each a (j + 1) k)) (filter passes (before_each a (j + 1) k)) ≡ map (λ b. (a, b)) (cond c (j ∷ filter (λ b. passes (a, b)) (upto (j + 1) k)) (filter (λ b. passes (a, b)) (upto (j + 1) k)))
      one true more = ap (λ (z : List (ℕ × ℕ)). (a, j) ∷ z) more
      one false more = more

  nothing_past : (o : Option Place) → are_placed order sides o None ≡ false
  nothing_past None = refl
  nothing_past (Some x) = refl

  and_false : (b : Bool) → (b && false) ≡ false
  and_false true = refl
  and_false false = refl

  and_true : (b : Bool) → b ≡ (b && true)
  and_true true = refl
  and_true false = refl

  -- a row that holds what passes is the rest of the row of all pairs
  module _ (a : ℕ) (lt : a < length places) (row : List ℕ) (rising : IsRising row) (holds : (q : ℕ) → has row q ≡ (ltb a q && are_placed order sides (slice_get places a) (slice_get places q))) where
    in_all : (q : ℕ) → has row q ≡ (passes (a, q) && has (upto (a + 1) (length places - (a + 1))) q)
    in_all q = holds q ∙ elim (cases_lt a q) [
      | inl up ↦ elim (cases_lt q (length places)) [
        | inl below ↦ ap (λ z. z && passes (a, q)) (lt-ltb a q up) ∙ and_true (passes (a, q)) ∙ ap (λ z. passes (a, q) && z) (sym (has_upto_in (a + 1) (length places - (a + 1)) q (omega (arith, up)) (omega (arith, below))))
        | inr past ↦
            let none : passes (a, q) ≡ false = ap (are_placed order sides (slice_get places a)) (slice_get_past places q past) ∙ nothing_past (slice_get places a) in
            ap (λ z. ltb a q && z) none ∙ and_false (ltb a q) ∙ sym (ap (λ z. z && has (upto (a + 1) (length places - (a + 1))) q) none)
      ]
      | inr le ↦ ap (λ z. z && passes (a, q)) (le-ltb a q le) ∙ sym (ap (λ z. passes (a, q) && z) (has_upto_below (a + 1) (length places - (a + 1)) q (omega (arith, le))) ∙ and_false (passes (a, q)))
    ]

    pub row_is : map (λ b. (a, b)) row ≡ filter passes (before_each a (a + 1) (length places - (a + 1)))
    row_is =
        ap (map (λ b. (a, b))) (filter_by (upto (a + 1) (length places - (a + 1))) row (λ b. passes (a, b)) (rising_upto (a + 1) (length places - (a + 1))) rising in_all)
        ∙ sym (row_filter a (a + 1) (length places - (a + 1)))

    pub one_row : (pairs new all : List (ℕ × ℕ)) → pairs ++ filter passes (in_turn a (length places - a)) ≡ all → new ≡ pairs ++ map (λ b. (a, b)) row → new ++ filter passes (in_turn (a + 1) (length places - (a + 1))) ≡ all
    one_row pairs new all so_far e =
        let rest = in_turn (a + 1) (length places - (a + 1)) in
        let here = before_each a (a + 1) (length places - (a + 1)) in
        let next : length places - a ≡ suc (length places - (a + 1)) = omega (arith, lt) in
        ap (λ (z : List (ℕ × ℕ)). z ++ filter passes rest) (e ∙ ap (λ (z : List (ℕ × ℕ)). pairs ++ z) row_is)
        ∙ append_assoc pairs (filter passes here) (filter passes rest)
        ∙ ap (λ (z : List (ℕ × ℕ)). pairs ++ z) (sym (filter-append passes here rest))
        ∙ ap (λ z. pairs ++ filter passes (in_turn a z)) (sym next)
        ∙ so_far

-- one element more of a walk that puts positions into a row
pub or_more : (new old x rest all : Bool) → new ≡ (old || x) → (old || (x || rest)) ≡ all → (new || rest) ≡ all
or_more new old x rest all e so_far = ap (λ z. z || rest) e ∙ more old x rest ∙ so_far
  where
    more : (a b c : Bool) → (a || b || c) ≡ (a || (b || c))
    more true b c = refl
    more false b c = refl

-- a later position that is put in
pub later_put : (at later q : ℕ) (h : Bool) → at < later → (eqb later q || h) ≡ (h || ltb at q && eqb later q)
later_put at later q h lt = elim (cases_eq later q) [
  | inl e ↦ ap (λ z. z || h) (eq-eqb later q e) ∙ sym (ap (λ z. h || ltb at q && z) (eq-eqb later q e) ∙ ap (λ z. h || z && true) (lt-ltb at q (omega (arith, e))) ∙ always h)
  | inr ne ↦ ap (λ z. z || h) (ne_eqb later q ne) ∙ sym (ap (λ z. h || ltb at q && z) (ne_eqb later q ne) ∙ ap (λ z. h || z) (and_false (ltb at q)) ∙ as_it_is h)
]
  where
    always : (b : Bool) → (b || true) ≡ true
    always true = refl
    always false = refl

    as_it_is : (b : Bool) → (b || false) ≡ b
    as_it_is true = refl
    as_it_is false = refl

    and_false : (b : Bool) → (b && false) ≡ false
    and_false true = refl
    and_false false = refl

pub leads_none : (sides : Sides) (first second : Place) → leads sides first ≡ false → is_through sides first second ≡ false
leads_none sides (Outside c) (Outside d) e = ap (λ z. z && has sides.after d) e
leads_none sides (Outside c) Group e = e
leads_none sides Group second e = absurd (cc)

-- nothing is put in by way of the group, where the first leads nowhere
pub none_through : (sides : Sides) (first : Place) (places : List Place) (b h : Bool) (q : ℕ) → leads sides first ≡ false → h ≡ (h || list_any (λ (k : ℕ × Place). b && is_put_through sides first q k) (enumerate_from 0 places))
none_through sides first places b h q e =
    sym (ap (λ z. h || z) (any_agree _ _ (λ (k : ℕ × Place). ap (λ z. b && (eqb k.0 q && z)) (leads_none sides first k.1 e) ∙ no_one b (eqb k.0 q)) (enumerate_from 0 places) ∙ never (enumerate_from 0 places)) ∙ as_it_is h)
  where
    no_one : (a b : Bool) → (a && (b && false)) ≡ false
    no_one true true = refl
    no_one true false = refl
    no_one false b = refl

    as_it_is : (b : Bool) → (b || false) ≡ b
    as_it_is true = refl
    as_it_is false = refl
