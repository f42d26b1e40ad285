-- Rows that rise, and the runs of places that runs of their positions are.
use Rattle.std.proofs.Common.{◌≡◌, ℕ, zero, suc, ◌+◌, ◌-◌, ◌<◌, ◌≤◌, Bool, true, false, not, ◌&&◌, ◌||◌, leb, ltb, eqb, cond, List, [], ◌∷◌, length, map, filter, Result, Ok, Err, OnOk, IfOk, refl, sym, ap, ◌∙◌, subst, inl, inr, arith}
use Rattle.std.specs.Prelude.{slice_index}
use Rattle.std.specs.List.{list_all}
use Rattle.std.proofs.lemmas.Bool.{and_parts, or_cases, or_right, or_left, ltb-true, leb-true, le-leb, lt-leb, lt-ltb, le-ltb, eqb-true, cases_lt, cases_eq, ne_eqb}
use Rattle.bd_base.specs.Bits.{upto}
use Rattle.bd_base.specs.Facts.{has, plus}
use Rattle.bd_base.specs.Pairs.{after_of, is_closed}
use Rattle.bd_base.proofs.FactLemmas.{has-plus}
use Rattle.bd_base.proofs.RunLemmas.{has_upto_above, has_upto_below, has_upto_in}
use Rattle.bd_tree.specs.Order.{is_less, is_rising, is_within, is_order}
use Rattle.bd_tree.proofs.OrderLemmas.{all_weaker}
use Rattle.bd_merge.specs.Starts.{RiseBetween, Rise, is_in_run, is_between}

pub rise_lower : (low lower high : ℕ) (xs : List ℕ) → lower ≤ low → RiseBetween low high xs → RiseBetween lower high xs
rise_lower low lower high [] le r = tt
rise_lower low lower high (x ∷ xs) le r = (omega (arith, le, r.0), r.1, r.2)

-- how many there can be
pub rise_few : (low high : ℕ) (xs : List ℕ) → low ≤ high → RiseBetween low high xs → length xs + low ≤ high
rise_few low high [] le r = omega (arith, le)
rise_few low high (x ∷ xs) le r = omega (arith, rise_few (x + 1) high xs (omega (arith, r.1)) r.2, r.0)

-- where there are as many as can be, they are all
pub rise_full : (low high : ℕ) (xs : List ℕ) → RiseBetween low high xs → length xs + low ≡ high → xs ≡ upto low (length xs)
rise_full low high [] r e = refl
rise_full low high (x ∷ xs) r e =
    let few : length xs + (x + 1) ≤ high = rise_few (x + 1) high xs (omega (arith, r.1)) r.2 in
    let same : x ≡ low = omega (arith, few, r.0, e) in
    ap (λ z. z ∷ xs) same ∙ ap (λ z. low ∷ z) (rise_full (low + 1) high xs (subst (λ z. RiseBetween (z + 1) high xs) same r.2) (omega (arith, e)))

and_none : (b : Bool) → (b && false) ≡ false
and_none true = refl
and_none false = refl

pub in_run_low : (from to q : ℕ) → q < from → is_in_run from to q ≡ false
in_run_low from to q lt = ap (λ z. z && ltb q to) (lt-leb from q lt)

pub in_run_high : (from to q : ℕ) → to ≤ q → is_in_run from to q ≡ false
in_run_high from to q le = ap (λ z. leb from q && z) (le-ltb q to le) ∙ and_none (leb from q)

pub in_run : (from to q : ℕ) → from ≤ q → q < to → is_in_run from to q ≡ true
in_run from to q le lt = ap (λ z. z && ltb q to) (le-leb from q le) ∙ lt-ltb q to lt

pub run_empty : (a q : ℕ) → is_in_run a a q ≡ false
run_empty a q = elim (cases_lt q a) [
  | inl lt ↦ in_run_low a a q lt
  | inr ge ↦ in_run_high a a q ge
]

or_none : (b : Bool) → (b || false) ≡ b
or_none true = refl
or_none false = refl

-- an empty run adds nothing
pub run_nothing : (a q : ℕ) (b c : Bool) → ((b || is_in_run a a q) || c) ≡ (b || c)
run_nothing a q b c = ap (λ z. (b || z) || c) (run_empty a q) ∙ ap (λ z. z || c) (or_none b)

-- two runs that meet are one
pub run_join : (a b c q : ℕ) → a ≤ b → b ≤ c → is_in_run a c q ≡ (is_in_run a b q || is_in_run b c q)
run_join a b c q ab bc = elim (cases_lt q b) [
  | inl lt ↦
      ap (λ z. leb a q && z) (lt-ltb q c (omega arith))
      ∙ sym (ap (λ z. leb a q && z) (lt-ltb q b lt))
      ∙ sym (ap (λ z. is_in_run a b q || z) (in_run_low b c q lt) ∙ or_none (is_in_run a b q))
  | inr ge ↦
      ap (λ z. z && ltb q c) (le-leb a q (omega arith))
      ∙ sym (ap (λ z. z && ltb q c) (le-leb b q ge))
      ∙ sym (ap (λ z. z || is_in_run b c q) (in_run_high a b q ge))
]

has_run : (from to q : ℕ) → has (upto from (to - from)) q ≡ is_in_run from to q
has_run from to q = elim (cases_lt q from) [
  | inl low ↦ has_upto_below from (to - from) q low ∙ sym (in_run_low from to q low)
  | inr up ↦ elim (cases_lt q to) [
    | inl below ↦ has_upto_in from (to - from) q up (omega arith) ∙ sym (in_run from to q up below)
    | inr high ↦ has_upto_above from (to - from) q (omega arith) ∙ sym (in_run_high from to q high)
  ]
]

other_way : (a b : Bool) → (a || b) ≡ (b || a)
other_way true true = refl
other_way true false = refl
other_way false true = refl
other_way false false = refl

-- a row with a run more
pub run_put_at : (row new : List ℕ) (from to : ℕ) → new ≡ plus row (upto from (to - from)) → (q : ℕ) → has new q ≡ (has row q || is_in_run from to q)
run_put_at row new from to e q = ap (λ (z : List ℕ). has z q) e ∙ has-plus row (upto from (to - from)) q ∙ ap (λ z. z || has row q) (has_run from to q) ∙ other_way (is_in_run from to q) (has row q)

-- what follows from an answer's clause
pub ok_then : {E : Type 0} (r : Result (Unit {0}) E) (P Q : Type 0) → OnOk r P → (P → Q) → OnOk r Q
ok_then (Ok x) P Q p f = f p
ok_then (Err e) P Q p f = tt

pub if_ok_then : {E : Type 0} (r : Result (List ℕ) E) (P Q : List ℕ → Type 0) → IfOk r P → ((x : List ℕ) → P x → Q x) → IfOk r Q
if_ok_then (Ok x) P Q p f = f x p
if_ok_then (Err e) P Q p f = tt

pub run_put : {E : Type 0} (r : Result (Unit {0}) E) (row new : List ℕ) (from to : ℕ) → OnOk r (new ≡ plus row (upto from (to - from))) → OnOk r ((q : ℕ) → has new q ≡ (has row q || is_in_run from to q))
run_put (Ok x) row new from to e = run_put_at row new from to e
run_put (Err x) row new from to e = tt

module _ (starts : List ℕ) (olds : ℕ) (rise : Rise olds starts) where
  abbrev at : ℕ → ℕ
  at j = slice_index starts j

  -- a run of old positions is a run of places
  pub between_upto : (j k e q : ℕ) → j + k ≡ e → e ≤ olds → is_between starts (upto j k) q ≡ is_in_run (at j) (at e) q
  between_upto j zero e q same le =
      let here : e ≡ j = omega (arith, same) in
      sym (ap (λ z. is_in_run (at j) (at z) q) here ∙ run_empty (at j) q)
  between_upto j (suc k) e q same le =
      ap (λ z. is_in_run (at j) (at (j + 1)) q || z) (between_upto (j + 1) k e q (omega (arith, same)) le)
      ∙ sym (run_join (at j) (at (j + 1)) (at e) q (rise.rise j (j + 1) (omega arith) (omega (arith, same))) (rise.rise (j + 1) e (omega (arith, same)) le))

  -- the tail of a row, from the position on from which it has as many as can be
  pub tail_is_run : (low : ℕ) (xs : List ℕ) (q : ℕ) → RiseBetween low olds xs → length xs + low ≡ olds → is_between starts xs q ≡ is_in_run (at low) (at olds) q
  tail_is_run low xs q r e = ap (λ (z : List ℕ). is_between starts z q) (rise_full low olds xs r e) ∙ between_upto low (length xs) olds q (omega (arith, e)) (omega arith)

  module _ (from to : ℕ) (up : from ≤ to) (inside : to ≤ olds) (row old : ℕ → Bool) (j : ℕ) (js all : List ℕ) (below : j < olds)
      (so_far : (q : ℕ) → ((row q || is_in_run (at from) (at to) q) || is_between starts (j ∷ js) q) ≡ (old q || is_between starts all q)) where
    shift : (a b c d : Bool) → ((a || b) || (c || d)) ≡ ((a || (b || c)) || d)
    shift true b c d = refl
    shift false true c d = refl
    shift false false c d = refl

    -- the run that is open goes on
    pub goes_on : j ≡ to → (q : ℕ) → ((row q || is_in_run (at from) (at (j + 1)) q) || is_between starts js q) ≡ (old q || is_between starts all q)
    goes_on same q =
        ap (λ z. (row q || z) || is_between starts js q) (run_join (at from) (at j) (at (j + 1)) q (rise.rise from j (omega (arith, same, up)) (omega (arith, below))) (rise.rise j (j + 1) (omega arith) (omega (arith, below)))
        ∙ ap (λ z. is_in_run (at from) (at z) q || is_in_run (at j) (at (j + 1)) q) same)
        ∙ sym (shift (row q) (is_in_run (at from) (at to) q) (is_in_run (at j) (at (j + 1)) q) (is_between starts js q))
        ∙ so_far q

    -- it is put, and another begins
    pub begins : (new : ℕ → Bool) → ((q : ℕ) → new q ≡ (row q || is_in_run (at from) (at to) q)) → (q : ℕ) → ((new q || is_in_run (at j) (at (j + 1)) q) || is_between starts js q) ≡ (old q || is_between starts all q)
    begins new put q =
        ap (λ z. (z || is_in_run (at j) (at (j + 1)) q) || is_between starts js q) (put q)
        ∙ sym (joined (row q || is_in_run (at from) (at to) q) (is_in_run (at j) (at (j + 1)) q) (is_between starts js q))
        ∙ so_far q
      where
        joined : (a b c : Bool) → (a || (b || c)) ≡ ((a || b) || c)
        joined true b c = refl
        joined false b c = refl

    -- it is put, and all that is left is one run
    pub ends : RiseBetween j olds (j ∷ js) → length (j ∷ js) + j ≡ olds → (new last : ℕ → Bool) → ((q : ℕ) → new q ≡ (row q || is_in_run (at from) (at to) q)) → ((q : ℕ) → last q ≡ (new q || is_in_run (at j) (at olds) q)) → (q : ℕ) → last q ≡ (old q || is_between starts all q)
    ends rest many new last put put_last q =
        put_last q
        ∙ ap (λ z. z || is_in_run (at j) (at olds) q) (put q)
        ∙ ap (λ z. (row q || is_in_run (at from) (at to) q) || z) (sym (tail_is_run j (j ∷ js) q rest many))
        ∙ so_far q

-- the row of a position in an order rises
module _ (n i : ℕ) where
  abbrev is_from : ℕ → ℕ × ℕ → Bool
  is_from low q = not (eqb q.0 i) || leb low q.1

  from_next : (p q : ℕ × ℕ) → eqb p.0 i ≡ true → is_less p q ≡ true → is_from (p.1 + 1) q ≡ true
  from_next p q e less = elim (cases_eq q.0 i) [
    | inl same ↦
        let mine : p.0 ≡ i = eqb-true p.0 i e in
        let up : p.1 < q.1 = elim (or_cases (ltb p.0 q.0) (eqb p.0 q.0 && ltb p.1 q.1) less) [
          | inl lt ↦ absurd (let gt : p.0 < q.0 = ltb-true p.0 q.0 lt in omega (arith, gt, mine, same))
          | inr both ↦ ltb-true p.1 q.1 (and_parts (eqb p.0 q.0) (ltb p.1 q.1) both).1
        ] in
        or_right (not (eqb q.0 i)) (leb (p.1 + 1) q.1) (le-leb (p.1 + 1) q.1 (omega (arith, up)))
    | inr ne ↦ or_left (not (eqb q.0 i)) (leb (p.1 + 1) q.1) (ap not (ne_eqb q.0 i ne))
  ]

  rows_from : (low : ℕ) (ps : List (ℕ × ℕ)) → list_all (is_within n) ps ≡ true → is_rising ps ≡ true → list_all (is_from low) ps ≡ true → RiseBetween low n (after_of ps i)
  rows_from low [] w r f = tt
  rows_from low (p ∷ ps) w r f =
      let within = and_parts (is_within n p) (list_all (is_within n) ps) w in
      let rising = and_parts (list_all (is_less p) ps) (is_rising ps) r in
      let from = and_parts (is_from low p) (list_all (is_from low) ps) f in
      let here = and_parts (ltb p.0 p.1) (ltb p.1 n) within.0 in
      one (eqb p.0 i) refl here.1 from.0
      (λ e. rows_from (p.1 + 1) ps within.1 rising.1 (all_weaker (is_less p) (is_from (p.1 + 1)) (λ q. from_next p q e) ps rising.0))
      (rows_from low ps within.1 rising.1 from.1)
    where
      one : (b : Bool) → eqb p.0 i ≡ b → ltb p.1 n ≡ true → is_from low p ≡ true → (eqb p.0 i ≡ true → RiseBetween (p.1 + 1) n (after_of ps i)) → RiseBetween low n (after_of ps i) → RiseBetween low n (map (λ q. q.1) (cond b (p ∷ filter (λ q. eqb q.0 i) ps) (filter (λ q. eqb q.0 i) ps)))
      one true e below from later same = (leb-true low p.1 (sym (ap (λ z. not z || leb low p.1) e) ∙ from), ltb-true p.1 n below, later e)
      one false e below from later same = same

  from_start : (q : ℕ × ℕ) → is_within n q ≡ true → is_from (i + 1) q ≡ true
  from_start q w = elim (cases_eq q.0 i) [
    | inl same ↦
        let up : q.0 < q.1 = ltb-true q.0 q.1 (and_parts (ltb q.0 q.1) (ltb q.1 n) w).0 in
        or_right (not (eqb q.0 i)) (leb (i + 1) q.1) (le-leb (i + 1) q.1 (omega (arith, up, same)))
    | inr ne ↦ or_left (not (eqb q.0 i)) (leb (i + 1) q.1) (ap not (ne_eqb q.0 i ne))
  ]

  pub row_rises : (order : List (ℕ × ℕ)) → is_order n order ≡ true → RiseBetween (i + 1) n (after_of order i)
  row_rises order o =
      let parts = and_parts (list_all (is_within n) order) (is_rising order) (and_parts (list_all (is_within n) order && is_rising order) (is_closed order) o).0 in
      rows_from (i + 1) order parts.0 parts.1 (all_weaker (is_within n) (is_from (i + 1)) from_start order parts.0)
