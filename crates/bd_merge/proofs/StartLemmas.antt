-- Where the kids of a side stand, by their old positions, and what a kid is before by its row.
use Rattle.std.proofs.Common.{◌≡◌, ℕ, zero, suc, ◌+◌, ◌<◌, ◌≤◌, Bool, true, false, not, ◌&&◌, ◌||◌, ltb, eqb, List, [], ◌∷◌, ◌++◌, length, Option, Some, None, slice_get, refl, sym, ap, ◌∙◌, subst, inl, inr, arith}
use Rattle.std.specs.Prelude.{slice_index}
use Rattle.std.specs.List.{list_any, list_all}
use Rattle.std.proofs.lemmas.List.{get_or_push, get_or_append_left}
use Rattle.std.proofs.lemmas.Bool.{both_ways, and_parts, ltb-true, lt-ltb, le-ltb, le-leb, lt-leb, eq-eqb, cases_lt, cases_eq, ne_eqb}
use Rattle.std.proofs.lemmas.Option.{slice_get_past}
use Rattle.bd_base.specs.Facts.{has}
use Rattle.bd_base.specs.Pairs.{is_before, after_of, total_order}
use Rattle.bd_base.proofs.RowLemmas.{before_by_row}
use Rattle.bd_tree.specs.Order.{is_order}
use Rattle.bd_tree.proofs.OrderLemmas.{total_is_order, not_before}
use Rattle.bd_merge.specs.Merged.{are_ordered, is_kept}
use Rattle.bd_merge.specs.Starts.{AreListed, AreStarts, IsStart, Rise, RiseBetween, is_always, is_between, is_in_run, is_kid, is_old_below, is_passed}
use Rattle.bd_merge.specs.declared.merging.Place.{Place}
use Rattle.bd_merge.specs.declared.merging.Place.TheVariants.{Front, New, Back}
use Rattle.bd_merge.specs.declared.ordering.Side.{Side}
use Rattle.bd_merge.specs.declared.ordering.Side.TheVariants.{Ahead, Behind}
use Rattle.bd_merge.proofs.RiseLemmas.{row_rises, in_run_low, in_run_high, in_run}
use Rattle.bd_merge.proofs.TurnLemmas.{two_ordered}

or_none : (b : Bool) → (b || false) ≡ b
or_none true = refl
or_none false = refl

one_more : (k j : ℕ) → ltb k (j + 1) ≡ (ltb k j || eqb j k)
one_more k j = elim (cases_lt k j) [
  | inl lt ↦ lt-ltb k (j + 1) (omega (arith, lt)) ∙ sym (ap (λ z. z || eqb j k) (lt-ltb k j lt))
  | inr ge ↦ elim (cases_eq j k) [
    | inl same ↦ lt-ltb k (j + 1) (omega (arith, same)) ∙ sym (ap (λ z. z || eqb j k) (le-ltb k j ge) ∙ eq-eqb j k same)
    | inr ne ↦ le-ltb k (j + 1) (omega (arith, ge, ne)) ∙ sym (ap (λ z. z || eqb j k) (le-ltb k j ge) ∙ ne_eqb j k ne)
  ]
]

-- the kid with an old position is passed next
pass_more : (side : Side) (j : ℕ) (x : Option Place) → is_passed side (j + 1) x ≡ (is_passed side j x || is_kid side j x)
pass_more Ahead j None = refl
pass_more Ahead j (Some (Front k)) = one_more k j
pass_more Ahead j (Some New) = refl
pass_more Ahead j (Some (Back k)) = refl
pass_more Behind j None = refl
pass_more Behind j (Some (Front k)) = refl
pass_more Behind j (Some New) = refl
pass_more Behind j (Some (Back k)) = one_more k j

apart : (j k : ℕ) → (not (ltb k j) && (ltb k j || eqb j k)) ≡ eqb j k
apart j k = elim (cases_lt k j) [
  | inl lt ↦ ap (λ z. not z && (z || eqb j k)) (lt-ltb k j lt) ∙ sym (ne_eqb j k (λ e. omega (arith, lt, e)))
  | inr ge ↦ ap (λ z. not z && (z || eqb j k)) (le-ltb k j ge)
]

-- a kid that is passed isn't the one with that position
pass_apart : (side : Side) (j : ℕ) (x : Option Place) → (not (is_passed side j x) && (is_passed side j x || is_kid side j x)) ≡ is_kid side j x
pass_apart Ahead j None = refl
pass_apart Ahead j (Some (Front k)) = apart j k
pass_apart Ahead j (Some New) = refl
pass_apart Ahead j (Some (Back k)) = refl
pass_apart Behind j None = refl
pass_apart Behind j (Some (Front k)) = refl
pass_apart Behind j (Some New) = refl
pass_apart Behind j (Some (Back k)) = apart j k

total_up : (n i j : ℕ) → is_before (total_order n) i j ≡ true → i < j
total_up n i j e = elim (cases_lt i j) [
  | inl lt ↦ lt
  | inr ge ↦ absurd (both_ways (is_before (total_order n) i j) (not_before n (total_order n) i j (total_is_order n) ge) e)
]

-- what stands behind something that isn't passed is no kid with that position
none_later : (n : ℕ) (side : Side) (j : ℕ) (x y : Option Place) → are_ordered (total_order n) x y ≡ true → is_passed side j x ≡ false → is_kid side j y ≡ false
none_later n side j None y e f = absurd (both_ways false refl e)
none_later n side j (Some x) None e f = absurd (both_ways false refl e)
none_later n Ahead j (Some (Front k)) (Some (Front m)) e f = ne_eqb j m (λ same. absurd (both_ways (ltb k j) f (lt-ltb k j (let up : k < m = total_up n k m e in omega (arith, up, same)))))
none_later n Ahead j (Some New) (Some (Front m)) e f = absurd (both_ways false refl e)
none_later n Ahead j (Some (Back k)) (Some (Front m)) e f = absurd (both_ways false refl e)
none_later n Ahead j (Some x) (Some New) e f = refl
none_later n Ahead j (Some x) (Some (Back m)) e f = refl
none_later n Behind j (Some x) (Some (Front m)) e f = refl
none_later n Behind j (Some x) (Some New) e f = refl
none_later n Behind j (Some (Front k)) (Some (Back m)) e f = absurd (both_ways true f refl)
none_later n Behind j (Some New) (Some (Back m)) e f = absurd (both_ways true f refl)
none_later n Behind j (Some (Back k)) (Some (Back m)) e f = ne_eqb j m (λ same. absurd (both_ways (ltb k j) f (lt-ltb k j (let up : k < m = total_up n k m e in omega (arith, up, same)))))

no_kid : (side : Side) (j : ℕ) → is_kid side j None ≡ false
no_kid Ahead j = refl
no_kid Behind j = refl

not_passed : (n k : ℕ) (y : Option Place) → are_ordered (total_order n) (Some (Back k)) y ≡ true → is_passed Behind 0 y ≡ false
not_passed n k None e = refl
not_passed n k (Some (Front m)) e = absurd (both_ways false refl e)
not_passed n k (Some New) e = absurd (both_ways false refl e)
not_passed n k (Some (Back m)) e = le-ltb m 0 (omega arith)

pub not_back : (x : Place) → ((k : ℕ) → x ≡ Back k → ⊥) → is_passed Behind 0 (Some x) ≡ true
not_back (Front k) h = refl
not_back New h = refl
not_back (Back k) h = absurd (h k refl)

-- the first kid behind the new steps
module _ (olds : ℕ) (places : List Place) (listed : AreListed olds places) (q : ℕ) (early : (p : ℕ) → p < q → is_passed Behind 0 (slice_get places p) ≡ true) where
  start_here : ((p : ℕ) → q ≤ p → is_passed Behind 0 (slice_get places p) ≡ false) → IsStart Behind places 0 q
  start_here late p = elim (cases_lt p q) [
    | inl lt ↦ lt-ltb p q lt ∙ sym (early p lt)
    | inr ge ↦ le-ltb p q ge ∙ sym (late p ge)
  ]

  pub behind_found : (k : ℕ) → slice_get places q ≡ Some (Back k) → IsStart Behind places 0 q
  behind_found k is = start_here (λ p ge. elim (cases_eq q p) [
    | inl same ↦ ap (λ z. is_passed Behind 0 (slice_get places z)) (sym same) ∙ ap (is_passed Behind 0) is ∙ le-ltb k 0 (omega arith)
    | inr ne ↦ elim (cases_lt p (length places)) [
      | inl below ↦ not_passed olds k (slice_get places p) (ap (λ (z : Option Place). are_ordered (total_order olds) z (slice_get places p)) (sym is) ∙ two_ordered (total_order olds) places q p listed.turn (omega (arith, ge, ne)) below)
      | inr past ↦ ap (is_passed Behind 0) (slice_get_past places p past)
    ]
  ])

  pub behind_none : length places ≤ q → IsStart Behind places 0 q
  behind_none past = start_here (λ p ge. ap (is_passed Behind 0) (slice_get_past places p (omega (arith, ge, past))))

  pub behind_later : is_passed Behind 0 (slice_get places q) ≡ true → (p : ℕ) → p < q + 1 → is_passed Behind 0 (slice_get places p) ≡ true
  behind_later here p lt = elim (cases_eq q p) [
    | inl same ↦ ap (λ z. is_passed Behind 0 (slice_get places z)) (sym same) ∙ here
    | inr ne ↦ early p (omega (arith, lt, ne))
  ]

module _ (olds : ℕ) (places : List Place) (listed : AreListed olds places) (side : Side) where
  abbrev at : ℕ → Option Place
  at q = slice_get places q

  module _ (j q : ℕ) (start : IsStart side places j q) where
    -- no later one is that kid
    later_none : (p : ℕ) → q < p → is_kid side j (at p) ≡ false
    later_none p lt = elim (cases_lt p (length places)) [
      | inl below ↦ none_later olds side j (at q) (at p) (two_ordered (total_order olds) places q p listed.turn lt below) (sym (start q) ∙ le-ltb q q (omega arith))
      | inr past ↦ ap (is_kid side j) (slice_get_past places p past) ∙ no_kid side j
    ]

    -- the next start, where that kid stands there
    pub start_on : is_kid side j (at q) ≡ true → IsStart side places (j + 1) (q + 1)
    start_on kid p = one_more_place ∙ sym (pass_more side j (at p) ∙ ap (λ z. z || is_kid side j (at p)) (sym (start p)))
      where
        one_more_place : ltb p (q + 1) ≡ (ltb p q || is_kid side j (at p))
        one_more_place = elim (cases_lt p q) [
          | inl lt ↦ lt-ltb p (q + 1) (omega (arith, lt)) ∙ sym (ap (λ z. z || is_kid side j (at p)) (lt-ltb p q lt))
          | inr ge ↦ elim (cases_eq q p) [
            | inl same ↦ lt-ltb p (q + 1) (omega (arith, same)) ∙ sym (ap (λ z. z || is_kid side j (at p)) (le-ltb p q ge) ∙ ap (λ z. is_kid side j (at z)) (sym same) ∙ kid)
            | inr ne ↦ le-ltb p (q + 1) (omega (arith, ge, ne)) ∙ sym (ap (λ z. z || is_kid side j (at p)) (le-ltb p q ge) ∙ later_none p (omega (arith, ge, ne)))
          ]
        ]

    -- the next start, where it doesn't
    pub start_off : is_kid side j (at q) ≡ false → IsStart side places (j + 1) q
    start_off none p = same_place ∙ sym (pass_more side j (at p) ∙ ap (λ z. z || is_kid side j (at p)) (sym (start p)))
      where
        same_place : ltb p q ≡ (ltb p q || is_kid side j (at p))
        same_place = elim (cases_lt p q) [
          | inl lt ↦ lt-ltb p q lt ∙ sym (ap (λ z. z || is_kid side j (at p)) (lt-ltb p q lt))
          | inr ge ↦ elim (cases_eq q p) [
            | inl same ↦ sym (or_none (ltb p q)) ∙ ap (λ z. ltb p q || z) (sym none ∙ ap (λ z. is_kid side j (at z)) same)
            | inr ne ↦ sym (or_none (ltb p q)) ∙ ap (λ z. ltb p q || z) (sym (later_none p (omega (arith, ge, ne))))
          ]
        ]

  module _ (starts : List ℕ) (are : AreStarts side places olds starts) where
    abbrev first : ℕ → ℕ
    first j = slice_index starts j

    pass_on : (j k : ℕ) (x : Option Place) → j ≤ k → is_passed side j x ≡ true → is_passed side k x ≡ true
    pass_on j k x le e = by side x e
      where
        up : (m : ℕ) → ltb m j ≡ true → ltb m k ≡ true
        up m e = lt-ltb m k (let lt : m < j = ltb-true m j e in omega (arith, lt, le))

        by : (side : Side) (x : Option Place) → is_passed side j x ≡ true → is_passed side k x ≡ true
        by Ahead None e = absurd (both_ways false refl e)
        by Ahead (Some (Front m)) e = up m e
        by Ahead (Some New) e = absurd (both_ways false refl e)
        by Ahead (Some (Back m)) e = absurd (both_ways false refl e)
        by Behind None e = absurd (both_ways false refl e)
        by Behind (Some (Front m)) e = refl
        by Behind (Some New) e = refl
        by Behind (Some (Back m)) e = up m e

    -- no start is above a later one
    pub starts_rise : Rise olds starts
    starts_rise = record {
      many = are.many;
      rise = λ j k le below. elim (cases_lt (first k) (first j)) [
        | inl lt ↦ absurd (
            let early : is_passed side j (at (first k)) ≡ true = sym (are.at j (omega (arith, le, below)) (first k)) ∙ lt-ltb (first k) (first j) lt in
            let late : ltb (first k) (first k) ≡ true = are.at k below (first k) ∙ pass_on j k (at (first k)) le early in
            both_ways (ltb (first k) (first k)) (le-ltb (first k) (first k) (omega arith)) late)
        | inr ge ↦ ge
      ];
    }

    in_run_not : (from to q : ℕ) → is_in_run from to q ≡ (not (ltb q from) && ltb q to)
    in_run_not from to q = ap (λ z. z && ltb q to) (elim (cases_lt q from) [
      | inl lt ↦ lt-leb from q lt ∙ sym (ap not (lt-ltb q from lt))
      | inr ge ↦ le-leb from q ge ∙ sym (ap not (le-ltb q from ge))
    ])

    -- between a start and the next stands the kid
    run_is_kid : (j q : ℕ) → j < olds → is_in_run (first j) (first (j + 1)) q ≡ is_kid side j (at q)
    run_is_kid j q lt =
        in_run_not (first j) (first (j + 1)) q
        ∙ ap (λ z. not z && ltb q (first (j + 1))) (are.at j (omega (arith, lt)) q)
        ∙ ap (λ z. not (is_passed side j (at q)) && z) (are.at (j + 1) (omega (arith, lt)) q ∙ pass_more side j (at q))
        ∙ pass_apart side j (at q)

    -- the places between the starts of old positions are those of the kids that have them
    pub between_kids : (low : ℕ) (xs : List ℕ) (q : ℕ) → RiseBetween low olds xs → is_between starts xs q ≡ list_any (λ j. is_kid side j (at q)) xs
    between_kids low [] q r = refl
    between_kids low (x ∷ xs) q r =
        ap (λ z. z || is_between starts xs q) (run_is_kid x q r.1)
        ∙ ap (λ z. is_kid side x (at q) || z) (between_kids (x + 1) xs q r.2)

any_has : (xs : List ℕ) (k : ℕ) → list_any (λ j. eqb j k) xs ≡ has xs k
any_has [] k = refl
any_has (x ∷ xs) k = ap (λ z. eqb x k || z) (any_has xs k)

any_false : (xs : List ℕ) → list_any (λ (j : ℕ). false) xs ≡ false
any_false [] = refl
any_false (x ∷ xs) = any_false xs

-- what a kid is before: what is behind all kids of its side, and the kids of the side that its row has
module _ (n : ℕ) (order : List (ℕ × ℕ)) (ordered : is_order n order ≡ true) (i : ℕ) where
  abbrev row : List ℕ
  row = after_of order i

  by_row : (k : ℕ) → list_any (λ j. eqb j k) row ≡ is_before order i k
  by_row k = any_has row k ∙ sym (before_by_row order i k)

  ahead_kept : (y : Option Place) → (is_always Ahead y || list_any (λ j. is_kid Ahead j y) row) ≡ are_ordered order (Some (Front i)) y
  ahead_kept None = any_false row
  ahead_kept (Some (Front k)) = by_row k
  ahead_kept (Some New) = refl
  ahead_kept (Some (Back k)) = refl

  behind_kept : (y : Option Place) → (is_always Behind y || list_any (λ j. is_kid Behind j y) row) ≡ are_ordered order (Some (Back i)) y
  behind_kept None = any_false row
  behind_kept (Some (Front k)) = any_false row
  behind_kept (Some New) = any_false row
  behind_kept (Some (Back k)) = by_row k

  not_up : (k : ℕ) → k ≤ i → list_any (λ j. eqb j k) row ≡ false
  not_up k le = by_row k ∙ not_before n order i k ordered le

  -- and none of these is earlier
  ahead_early : (y : Option Place) → are_ordered (total_order n) y (Some (Front i)) ≡ true → (is_always Ahead y || list_any (λ j. is_kid Ahead j y) row) ≡ false
  ahead_early None e = absurd (both_ways false refl e)
  ahead_early (Some (Front k)) e = not_up k (let up : k < i = total_up n k i e in omega (arith, up))
  ahead_early (Some New) e = absurd (both_ways false refl e)
  ahead_early (Some (Back k)) e = absurd (both_ways false refl e)

  behind_early : (y : Option Place) → are_ordered (total_order n) y (Some (Back i)) ≡ true → (is_always Behind y || list_any (λ j. is_kid Behind j y) row) ≡ false
  behind_early None e = absurd (both_ways false refl e)
  behind_early (Some (Front k)) e = any_false row
  behind_early (Some New) e = any_false row
  behind_early (Some (Back k)) e = not_up k (let up : k < i = total_up n k i e in omega (arith, up))

module _ (olds : ℕ) (places : List Place) (listed : AreListed olds places) (order : List (ℕ × ℕ)) (a : ℕ) (lt : a < length places) where
  abbrev place : ℕ → Option Place
  place q = slice_get places q

  abbrev keeps : ℕ → Bool
  keeps q = ltb a q && is_kept order places (a, q)

  -- by the places behind, in front, and its own
  by_cases : (x : Option Place) (t : Option Place → Bool) → place a ≡ x → ((y : Option Place) → t y ≡ are_ordered order x y) → ((y : Option Place) → are_ordered (total_order olds) y x ≡ true → t y ≡ false) → t x ≡ false → (q : ℕ) → t (place q) ≡ keeps q
  by_cases x t is kept early own q = elim (cases_lt a q) [
    | inl up ↦ kept (place q) ∙ ap (λ (z : Option Place). are_ordered order z (place q)) (sym is) ∙ sym (ap (λ z. z && is_kept order places (a, q)) (lt-ltb a q up))
    | inr le ↦
        let none : t (place q) ≡ false = elim (cases_eq a q) [
          | inl same ↦ ap (λ z. t (place z)) (sym same) ∙ ap t is ∙ own
          | inr ne ↦ early (place q) (ap (λ (z : Option Place). are_ordered (total_order olds) (place q) z) (sym is) ∙ two_ordered (total_order olds) places q a listed.turn (omega (arith, le, ne)) lt)
        ] in
        none
        ∙ sym (ap (λ z. z && is_kept order places (a, q)) (le-ltb a q le))
  ]

  module _ (ordered : is_order olds order ≡ true) (i : ℕ) (row always starts : List ℕ) where
    pub ahead_row : place a ≡ Some (Front i) → AreStarts Ahead places olds starts → ((q : ℕ) → has always q ≡ is_always Ahead (place q)) → ((q : ℕ) → has row q ≡ (has always q || is_between starts (after_of order i) q)) → (q : ℕ) → has row q ≡ keeps q
    ahead_row is are behind made q =
        made q
        ∙ ap (λ z. z || is_between starts (after_of order i) q) (behind q)
        ∙ ap (λ z. is_always Ahead (place q) || z) (between_kids olds places listed Ahead starts are (i + 1) (after_of order i) q (row_rises olds i order ordered))
        ∙ by_cases (Some (Front i)) (λ y. is_always Ahead y || list_any (λ j. is_kid Ahead j y) (after_of order i)) is (ahead_kept olds order ordered i) (ahead_early olds order ordered i) (not_up olds order ordered i i (omega arith)) q

    pub behind_row : place a ≡ Some (Back i) → AreStarts Behind places olds starts → ((q : ℕ) → has always q ≡ is_always Behind (place q)) → ((q : ℕ) → has row q ≡ (has always q || is_between starts (after_of order i) q)) → (q : ℕ) → has row q ≡ keeps q
    behind_row is are behind made q =
        made q
        ∙ ap (λ z. z || is_between starts (after_of order i) q) (behind q)
        ∙ ap (λ z. is_always Behind (place q) || z) (between_kids olds places listed Behind starts are (i + 1) (after_of order i) q (row_rises olds i order ordered))
        ∙ by_cases (Some (Back i)) (λ y. is_always Behind y || list_any (λ j. is_kid Behind j y) (after_of order i)) is (behind_kept olds order ordered i) (behind_early olds order ordered i) (not_up olds order ordered i i (omega arith)) q

  new_later : (y : Option Place) → are_ordered (total_order olds) (Some New) y ≡ true → are_ordered order (Some New) y ≡ true
  new_later None e = absurd (both_ways false refl e)
  new_later (Some (Front k)) e = absurd (both_ways false refl e)
  new_later (Some New) e = refl
  new_later (Some (Back k)) e = refl

  none_kept : (x : Option Place) → are_ordered order x None ≡ false
  none_kept None = refl
  none_kept (Some x) = refl

  -- a new step is before all that is behind it
  pub new_row : place a ≡ Some New → (row none : List ℕ) → ((q : ℕ) → has none q ≡ is_always Behind (place q)) → ((q : ℕ) → has row q ≡ (has none q || is_in_run (a + 1) (length places) q)) → (q : ℕ) → has row q ≡ keeps q
  new_row is row none empty made q = made q ∙ ap (λ z. z || is_in_run (a + 1) (length places) q) (empty q) ∙ elim (cases_lt a q) [
    | inl up ↦ elim (cases_lt q (length places)) [
      | inl below ↦
          in_run (a + 1) (length places) q (omega (arith, up)) below
          ∙ sym (ap (λ z. z && is_kept order places (a, q)) (lt-ltb a q up)
          ∙ ap (λ (z : Option Place). are_ordered order z (place q)) is
          ∙ new_later (place q) (ap (λ (z : Option Place). are_ordered (total_order olds) z (place q)) (sym is) ∙ two_ordered (total_order olds) places a q listed.turn up below))
      | inr past ↦
          in_run_high (a + 1) (length places) q past
          ∙ sym (ap (λ z. z && is_kept order places (a, q)) (lt-ltb a q up) ∙ ap (are_ordered order (place a)) (slice_get_past places q past) ∙ none_kept (place a))
    ]
    | inr le ↦ in_run_low (a + 1) (length places) q (omega (arith, le)) ∙ sym (ap (λ z. z && is_kept order places (a, q)) (le-ltb a q le))
  ]

-- one start more
pub starts_more : (side : Side) (places : List Place) (starts new : List ℕ) (j q : ℕ) → length starts ≡ j → new ≡ starts ++ q ∷ [] → IsStart side places j q → ((k : ℕ) → k < j → IsStart side places k (slice_index starts k)) → (k : ℕ) → k < j + 1 → IsStart side places k (slice_index new k)
starts_more side places starts new j q many e here so_far k lt = elim (cases_eq k j) [
  | inl same ↦ subst (λ z. IsStart side places k z) (sym (ap (λ (z : List ℕ). slice_index z k) e ∙ get_or_push starts q 0 k (many ∙ sym same))) (subst (λ z. IsStart side places z q) (sym same) here)
  | inr ne ↦ subst (λ z. IsStart side places k z) (sym (ap (λ (z : List ℕ). slice_index z k) e ∙ get_or_append_left starts (q ∷ []) 0 k (omega (arith, many, lt, ne)))) (so_far k (omega (arith, lt, ne)))
]

abbrev is_held : ℕ → Option Place → Bool
is_held n None = true
is_held n (Some x) = is_old_below n x

held_at : (n : ℕ) (places : List Place) (q : ℕ) → list_all (is_old_below n) places ≡ true → is_held n (slice_get places q) ≡ true
held_at n [] q a = refl
held_at n (p ∷ ps) zero a = (and_parts (is_old_below n p) (list_all (is_old_below n) ps) a).0
held_at n (p ∷ ps) (suc q) a = held_at n ps q (and_parts (is_old_below n p) (list_all (is_old_below n) ps) a).1

none_and : (b : Bool) → (b && false) ≡ false
none_and true = refl
none_and false = refl

abbrev is_there : Option Place → Bool
is_there None = false
is_there (Some x) = true

get_in : (ps : List Place) (q : ℕ) → q < length ps → is_there (slice_get ps q) ≡ true
get_in [] q lt = absurd (omega arith)
get_in (p ∷ ps) zero lt = refl
get_in (p ∷ ps) (suc q) lt = get_in ps q (omega arith)

inside : (olds : ℕ) (x : Option Place) → is_held olds x ≡ true → is_there x ≡ true → (not (is_passed Ahead olds x) && true) ≡ is_always Ahead x
inside olds None h there = absurd (both_ways false refl there)
inside olds (Some (Front k)) h there = ap (λ z. not z && true) h
inside olds (Some New) h there = refl
inside olds (Some (Back k)) h there = refl

-- all that isn't in front is behind each kid that is
pub always_run : (olds : ℕ) (places : List Place) (listed : AreListed olds places) (starts row : List ℕ) → AreStarts Ahead places olds starts → ((q : ℕ) → has row q ≡ (has [] q || is_in_run (slice_index starts olds) (length places) q)) → (q : ℕ) → has row q ≡ is_always Ahead (slice_get places q)
always_run olds places listed starts row are put q =
    put q
    ∙ in_run_not olds places listed Ahead starts are (slice_index starts olds) (length places) q
    ∙ ap (λ z. not z && ltb q (length places)) (are.at olds (omega arith) q)
    ∙ elim (cases_lt q (length places)) [
      | inl lt ↦ ap (λ z. not (is_passed Ahead olds (slice_get places q)) && z) (lt-ltb q (length places) lt) ∙ inside olds (slice_get places q) (held_at olds places q listed.below) (get_in places q lt)
      | inr ge ↦ ap (λ z. not (is_passed Ahead olds (slice_get places q)) && z) (le-ltb q (length places) ge) ∙ none_and (not (is_passed Ahead olds (slice_get places q))) ∙ sym (ap (is_always Ahead) (slice_get_past places q ge))
    ]
