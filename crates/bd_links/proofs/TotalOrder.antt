-- A block whose order is total: which kid adds or deletes a fact last tells all.
use Rattle.std.proofs.Common.{◌≡◌, ℕ, zero, suc, ◌+◌, ◌<◌, ◌≤◌, Bool, true, false, not, ◌&&◌, ◌||◌, eqb, List, [], ◌∷◌, ◌++◌, length, length-append, refl, sym, ap, ◌∙◌, subst, inl, inr, arith}
use Rattle.std.specs.List.{list_any, list_all, enumerate_from}
use Rattle.std.specs.Cmp.{both_ways}
use Rattle.std.proofs.lemmas.Bool.{or_cases, or_parts, and_parts, and_from, or_left, or_right, or_from, and_left, cases_order, eq-eqb, ne_eqb, eqb-true, false_from_ne_true, not-true, not_from_false}
use Rattle.bd_base.specs.Facts.{has}
use Rattle.bd_base.specs.Pairs.{is_before, before_each, in_turn, total_order}
use Rattle.bd_links.specs.Child.{Child}
use Rattle.bd_links.specs.Effects.{Kid, links, is_linked, gives, is_given, is_safe}
use Rattle.bd_links.proofs.Members.{In, here, there, any_some, some_any, all_at, all_from}

-- the pairs of a total order
any-append : (t : ℕ × ℕ → Bool) (xs ys : List (ℕ × ℕ)) → list_any t (xs ++ ys) ≡ (list_any t xs || list_any t ys)
any-append t [] ys = refl
any-append t (x ∷ xs) ys = ap (λ b. t x || b) (any-append t xs ys) ∙ turned (t x) (list_any t xs) (list_any t ys)
  where
    turned : (a b c : Bool) → (a || (b || c)) ≡ ((a || b) || c)
    turned true b c = refl
    turned false b c = refl

before_in_row : (m j k a b : ℕ) → is_before (before_each m j k) a b ≡ true → (m ≡ a) × (j ≤ b) × (b < j + k)
before_in_row m j zero a b e = absurd (Rattle.std.proofs.lemmas.Bool.both_ways false refl e)
before_in_row m j (suc k) a b e = elim (or_cases (eqb m a && eqb j b) (is_before (before_each m (j + 1) k) a b) e) [
  | inl h ↦ let p = and_parts (eqb m a) (eqb j b) h in let same : j ≡ b = eqb-true j b p.1 in (eqb-true m a p.0, omega arith, omega arith)
  | inr h ↦ let r = before_in_row m (j + 1) k a b h in (r.0, omega (arith, r.1), omega (arith, r.2))
]

row_has : (m j k b : ℕ) → j ≤ b → b < j + k → is_before (before_each m j k) m b ≡ true
row_has m j zero b le lt = absurd (omega arith)
row_has m j (suc k) b le lt = elim (cases_order j b) [
  | inl e ↦ or_left _ _ (and_from _ _ (eq-eqb m m refl) (eq-eqb j b e))
  | inr (inl less) ↦ or_right _ _ (row_has m (j + 1) k b (omega arith) (omega arith))
  | inr (inr more) ↦ absurd (omega arith)
]

before_in_turn : (m k a b : ℕ) → is_before (in_turn m k) a b ≡ true → (m ≤ a) × (a < b) × (b < m + k)
before_in_turn m zero a b e = absurd (Rattle.std.proofs.lemmas.Bool.both_ways false refl e)
before_in_turn m (suc k) a b e =
    elim (or_cases (is_before (before_each m (m + 1) k) a b) (is_before (in_turn (m + 1) k) a b) (sym (any-append (λ p. eqb p.0 a && eqb p.1 b) (before_each m (m + 1) k) (in_turn (m + 1) k)) ∙ e)) [
      | inl h ↦ let r = before_in_row m (m + 1) k a b h in (omega (arith, r.0), omega (arith, r.0, r.1), omega (arith, r.2))
      | inr h ↦ let r = before_in_turn (m + 1) k a b h in (omega (arith, r.0), r.1, omega (arith, r.2))
    ]

turn_has : (m k a b : ℕ) → m ≤ a → a < b → b < m + k → is_before (in_turn m k) a b ≡ true
turn_has m zero a b le lt far = absurd (omega arith)
turn_has m (suc k) a b le lt far = any-append (λ p. eqb p.0 a && eqb p.1 b) (before_each m (m + 1) k) (in_turn (m + 1) k) ∙ elim (cases_order m a) [
  | inl e ↦ or_left _ _ (subst (λ z. is_before (before_each m (m + 1) k) z b ≡ true) e (row_has m (m + 1) k b (omega arith) (omega arith)))
  | inr (inl less) ↦ or_right _ _ (turn_has (m + 1) k a b (omega arith) lt (omega arith))
  | inr (inr more) ↦ absurd (omega arith)
]

pub total_below : (n a b : ℕ) → is_before (total_order n) a b ≡ true → a < b
total_below n a b e = (before_in_turn 0 n a b e).1

pub total_has : (n a b : ℕ) → a < b → b < n → is_before (total_order n) a b ≡ true
total_has n a b lt far = turn_has 0 n a b (omega arith) lt (omega arith)

pub total_not : (n a b : ℕ) → b ≤ a → is_before (total_order n) a b ≡ false
total_not n a b le = false_from_ne_true (is_before (total_order n) a b) (λ e. let lt = total_below n a b e in omega arith)

-- positions in a list with numbers
pub in_from : (m : ℕ) (cs : List Child) (x : Kid) → In x (enumerate_from m cs) → m ≤ x.0
in_from m [] x i = elim i [ ]
in_from m (c ∷ cs) x here = omega arith
in_from m (c ∷ cs) x (there i) = omega (arith, in_from (m + 1) cs x i)

pub in_below : (m : ℕ) (cs : List Child) (x : Kid) → In x (enumerate_from m cs) → x.0 < m + length cs
in_below m [] x i = elim i [ ]
in_below m (c ∷ cs) x here = omega arith
in_below m (c ∷ cs) x (there i) = omega (arith, in_below (m + 1) cs x i)

pub in_first : (m : ℕ) (xs ys : List Child) (x : Kid) → In x (enumerate_from m xs) → In x (enumerate_from m (xs ++ ys))
in_first m [] ys x i = elim i [ ]
in_first m (c ∷ cs) ys x here = here
in_first m (c ∷ cs) ys x (there i) = there (in_first (m + 1) cs ys x i)

pub first_in : (m : ℕ) (xs ys : List Child) (x : Kid) → In x (enumerate_from m (xs ++ ys)) → x.0 < m + length xs → In x (enumerate_from m xs)
first_in m [] ys x i lt = absurd (let le = in_from m ys x i in omega arith)
first_in m (c ∷ cs) ys x here lt = here
first_in m (c ∷ cs) ys x (there i) lt = there (first_in (m + 1) cs ys x i (omega arith))

-- no kid deletes the fact
abbrev pub none_deletes : List Child → ℕ → Bool
none_deletes [] p = true
none_deletes (c ∷ cs) p = not (has c.effects.del p) && none_deletes cs p

-- some kid adds the fact, and no later one deletes it
abbrev pub adds_last : List Child → ℕ → Bool
adds_last [] p = false
adds_last (c ∷ cs) p = adds_last cs p || (has c.effects.add p && none_deletes cs p)

none_at : (m : ℕ) (cs : List Child) (p : ℕ) → none_deletes cs p ≡ true → (d : Kid) → In d (enumerate_from m cs) → has d.1.effects.del p ≡ false
none_at m [] p e d i = elim i [ ]
none_at m (c ∷ cs) p e d here = not-true _ (and_parts (not (has c.effects.del p)) (none_deletes cs p) e).0
none_at m (c ∷ cs) p e d (there i) = none_at (m + 1) cs p (and_parts (not (has c.effects.del p)) (none_deletes cs p) e).1 d i

none_from : (m : ℕ) (cs : List Child) (p : ℕ) → ((d : Kid) → In d (enumerate_from m cs) → has d.1.effects.del p ≡ false) → none_deletes cs p ≡ true
none_from m [] p h = refl
none_from m (c ∷ cs) p h = and_from _ _ (ap not (h (m, c) here)) (none_from (m + 1) cs p (λ d i. h d (there i)))

-- a kid that adds the fact, after which no kid deletes it
pub record Adder (m : ℕ) (cs : List Child) (p : ℕ) : Type 0 where
  pub kid : Kid
  pub is_in : In kid (enumerate_from m cs)
  pub adds : has kid.1.effects.add p ≡ true
  pub last : (d : Kid) → In d (enumerate_from m cs) → kid.0 < d.0 → has d.1.effects.del p ≡ false

adder_from : (m : ℕ) (cs : List Child) (p : ℕ) → adds_last cs p ≡ true → Adder m cs p
adder_from m [] p e = absurd (Rattle.std.proofs.lemmas.Bool.both_ways false refl e)
adder_from m (c ∷ cs) p e = elim (or_cases (adds_last cs p) (has c.effects.add p && none_deletes cs p) e) [
  | inl h ↦ let r = adder_from (m + 1) cs p h in record { kid = r.kid; is_in = there r.is_in; adds = r.adds; last = λ d i lt. later r d i lt }
  | inr h ↦ let both = and_parts (has c.effects.add p) (none_deletes cs p) h in record { kid = (m, c); is_in = here; adds = both.0; last = λ d i lt. after both.1 d i lt }
]
  where
    later : (r : Adder (m + 1) cs p) (d : Kid) → In d (enumerate_from m (c ∷ cs)) → r.kid.0 < d.0 → has d.1.effects.del p ≡ false
    later r d here lt = absurd (let le = in_from (m + 1) cs r.kid r.is_in in omega arith)
    later r d (there i) lt = r.last d i lt

    after : none_deletes cs p ≡ true → (d : Kid) → In d (enumerate_from m (c ∷ cs)) → m < d.0 → has d.1.effects.del p ≡ false
    after none d here lt = absurd (omega arith)
    after none d (there i) lt = none_at (m + 1) cs p none d i

adder_to : (m : ℕ) (cs : List Child) (p : ℕ) (k : Kid) → In k (enumerate_from m cs) → has k.1.effects.add p ≡ true → ((d : Kid) → In d (enumerate_from m cs) → k.0 < d.0 → has d.1.effects.del p ≡ false) → adds_last cs p ≡ true
adder_to m [] p k i adds last = elim i [ ]
adder_to m (c ∷ cs) p k here adds last = or_right _ _ (and_from _ _ adds (none_from (m + 1) cs p (λ d j. last d (there j) (let le = in_from (m + 1) cs d j in omega arith))))
adder_to m (c ∷ cs) p k (there i) adds last = or_left _ _ (adder_to (m + 1) cs p k i adds (λ d j. last d (there j)))

-- tests with three parts, and with five
mid_three : (a b c : Bool) → (a || b || c) ≡ true → a ≡ false → c ≡ false → b ≡ true
mid_three a true c h pa pc = refl
mid_three a false c h pa pc = absurd (let z : (a || false || c) ≡ false = rw (pa, pc) refl in Rattle.std.proofs.lemmas.Bool.both_ways _ z h)

three_1 : (a b c : Bool) → a ≡ true → (a || b || c) ≡ true
three_1 a b c h = rw h refl

three_2 : (a b c : Bool) → b ≡ true → (a || b || c) ≡ true
three_2 true b c h = refl
three_2 false b c h = rw h refl

three_3 : (a b c : Bool) → c ≡ true → (a || b || c) ≡ true
three_3 true b c h = refl
three_3 false true c h = refl
three_3 false false c h = h

mid_five : (a b c d e : Bool) → (a || b || c || d || e) ≡ true → a ≡ false → b ≡ false → d ≡ false → e ≡ false → c ≡ true
mid_five a b true d e h pa pb pd pe = refl
mid_five a b false d e h pa pb pd pe = absurd (let z : (a || b || false || d || e) ≡ false = rw (pa, pb, pd, pe) refl in Rattle.std.proofs.lemmas.Bool.both_ways _ z h)

five_1 : (a b c d e : Bool) → a ≡ true → (a || b || c || d || e) ≡ true
five_1 a b c d e h = rw h refl

five_2 : (a b c d e : Bool) → b ≡ true → (a || b || c || d || e) ≡ true
five_2 true b c d e h = refl
five_2 false b c d e h = rw h refl

five_3 : (a b c d e : Bool) → c ≡ true → (a || b || c || d || e) ≡ true
five_3 true b c d e h = refl
five_3 false true c d e h = refl
five_3 false false c d e h = rw h refl

five_4 : (a b c d e : Bool) → d ≡ true → (a || b || c || d || e) ≡ true
five_4 true b c d e h = refl
five_4 false true c d e h = refl
five_4 false false true d e h = refl
five_4 false false false d e h = rw h refl

five_5 : (a b c d e : Bool) → e ≡ true → (a || b || c || d || e) ≡ true
five_5 true b c d e h = refl
five_5 false true c d e h = refl
five_5 false false true d e h = refl
five_5 false false false true e h = refl
five_5 false false false false e h = h

-- the block gives what is added last
module _ (all : List Child) (p : ℕ) where
  given_to : is_given (total_order (length all)) (enumerate_from 0 all) p ≡ true → adds_last all p ≡ true
  given_to e =
      let n = length all in
      let i = any_some (gives (total_order n) (enumerate_from 0 all) p) (enumerate_from 0 all) e in
      let both = and_parts (has i.0.1.effects.add p) _ i.2 in
      adder_to 0 all p i.0 i.1 both.0 (λ d j lt.
      let test = all_at _ d (enumerate_from 0 all) both.1 j in
      not-true (has d.1.effects.del p) (mid_three _ _ _ test (ne_eqb d.0 i.0.0 (λ s. omega arith)) (total_not n d.0 i.0.0 (omega arith))))

  given_back : adds_last all p ≡ true → is_given (total_order (length all)) (enumerate_from 0 all) p ≡ true
  given_back e =
      let n = length all in
      let a = adder_from 0 all p e in
      some_any (gives (total_order n) (enumerate_from 0 all) p) a.kid (enumerate_from 0 all) a.is_in (and_from _ _ a.adds (all_from _ (enumerate_from 0 all) (λ d i. elim (cases_order d.0 a.kid.0) [
        | inl same ↦ three_1 (eqb d.0 a.kid.0) (not (has d.1.effects.del p)) (is_before (total_order n) d.0 a.kid.0) (eq-eqb d.0 a.kid.0 same)
        | inr (inl less) ↦ three_3 (eqb d.0 a.kid.0) (not (has d.1.effects.del p)) (is_before (total_order n) d.0 a.kid.0) (total_has n d.0 a.kid.0 less (let far = in_below 0 all a.kid a.is_in in omega arith))
        | inr (inr more) ↦ three_2 (eqb d.0 a.kid.0) (not (has d.1.effects.del p)) (is_before (total_order n) d.0 a.kid.0) (ap not (a.last d i more))
      ])))

  pub given_in_turn : is_given (total_order (length all)) (enumerate_from 0 all) p ≡ adds_last all p
  given_in_turn = both_ways _ _ given_to given_back

module _ (xs ys : List Child) (c : Child) (p : ℕ) where
  abbrev whole : List Child
  whole = xs ++ c ∷ ys

  abbrev kids : List Kid
  kids = enumerate_from 0 whole

  abbrev order : List (ℕ × ℕ)
  order = total_order (length whole)

  within : length xs < length whole
  within = omega (arith, length-append xs (c ∷ ys))

  in_xs : (d : Kid) → In d kids → d.0 < length xs → In d (enumerate_from 0 xs)
  in_xs d i lt = first_in 0 xs (c ∷ ys) d i (omega arith)

  linked_to : is_linked order kids (length xs) p ≡ true → adds_last xs p ≡ true
  linked_to e =
      let j = length xs in
      let i = any_some (links order kids j p) kids e in
      let both = and_parts (is_before order i.0.0 j && has i.0.1.effects.add p) _ i.2 in
      let two = and_parts (is_before order i.0.0 j) (has i.0.1.effects.add p) both.0 in
      adder_to 0 xs p i.0 (in_xs i.0 i.1 (total_below (length whole) i.0.0 j two.0)) two.1 (λ d k lt.
      let far = in_below 0 xs d k in
      let test = all_at _ d kids both.1 (in_first 0 xs (c ∷ ys) d k) in
      not-true (has d.1.effects.del p) (mid_five _ _ _ _ _ test (ne_eqb d.0 i.0.0 (λ s. omega arith)) (ne_eqb d.0 j (λ s. omega arith)) (total_not (length whole) d.0 i.0.0 (omega arith)) (total_not (length whole) j d.0 (omega arith))))

  linked_back : adds_last xs p ≡ true → is_linked order kids (length xs) p ≡ true
  linked_back e =
      let j = length xs in
      let n = length whole in
      let a = adder_from 0 xs p e in
      let far = in_below 0 xs a.kid a.is_in in
      let far_j = within in
      some_any (links order kids j p) a.kid kids (in_first 0 xs (c ∷ ys) a.kid a.is_in) (and_from _ _ (and_from _ _ (total_has n a.kid.0 j (omega arith) far_j) a.adds) (all_from _ kids (λ d i. elim (cases_order d.0 a.kid.0) [
        | inl same ↦ five_1 (eqb d.0 a.kid.0) (eqb d.0 j) (not (has d.1.effects.del p)) (is_before order d.0 a.kid.0) (is_before order j d.0) (eq-eqb d.0 a.kid.0 same)
        | inr (inl less) ↦ five_4 (eqb d.0 a.kid.0) (eqb d.0 j) (not (has d.1.effects.del p)) (is_before order d.0 a.kid.0) (is_before order j d.0) (total_has n d.0 a.kid.0 less (omega arith))
        | inr (inr more) ↦ elim (cases_order d.0 j) [
          | inl same ↦ five_2 (eqb d.0 a.kid.0) (eqb d.0 j) (not (has d.1.effects.del p)) (is_before order d.0 a.kid.0) (is_before order j d.0) (eq-eqb d.0 j same)
          | inr (inl less) ↦ five_3 (eqb d.0 a.kid.0) (eqb d.0 j) (not (has d.1.effects.del p)) (is_before order d.0 a.kid.0) (is_before order j d.0) (ap not (a.last d (in_xs d i less) more))
          | inr (inr later) ↦ five_5 (eqb d.0 a.kid.0) (eqb d.0 j) (not (has d.1.effects.del p)) (is_before order d.0 a.kid.0) (is_before order j d.0) (total_has n j d.0 later (let far_d = in_below 0 whole d i in omega arith))
        ]
      ])))

  -- a kid is linked for what is added last before it
  pub linked_in_turn : is_linked order kids (length xs) p ≡ adds_last xs p
  linked_in_turn = both_ways _ _ linked_to linked_back

  later_to : list_all (λ d. eqb d.0 (length xs) || not (has d.1.effects.del p) || is_before order (length xs) d.0) kids ≡ true → none_deletes xs p ≡ true
  later_to e = none_from 0 xs p (λ d i.
      let far = in_below 0 xs d i in
      let test = all_at (λ d. eqb d.0 (length xs) || not (has d.1.effects.del p) || is_before order (length xs) d.0) d kids e (in_first 0 xs (c ∷ ys) d i) in
      not-true (has d.1.effects.del p) (mid_three _ _ _ test (ne_eqb d.0 (length xs) (λ s. omega arith)) (total_not (length whole) (length xs) d.0 (omega arith))))

  later_back : none_deletes xs p ≡ true → list_all (λ d. eqb d.0 (length xs) || not (has d.1.effects.del p) || is_before order (length xs) d.0) kids ≡ true
  later_back e = all_from _ kids (λ d i. elim (cases_order d.0 (length xs)) [
    | inl same ↦ three_1 (eqb d.0 (length xs)) (not (has d.1.effects.del p)) (is_before order (length xs) d.0) (eq-eqb d.0 (length xs) same)
    | inr (inl less) ↦ three_2 (eqb d.0 (length xs)) (not (has d.1.effects.del p)) (is_before order (length xs) d.0) (ap not (none_at 0 xs p e d (in_xs d i less)))
    | inr (inr more) ↦ three_3 (eqb d.0 (length xs)) (not (has d.1.effects.del p)) (is_before order (length xs) d.0) (total_has (length whole) (length xs) d.0 more (let far_d = in_below 0 whole d i in omega arith))
  ])

  -- a kid is safe for what wasn't deleted last before it
  pub safe_in_turn : is_safe order kids (length xs, c) p ≡ (adds_last xs p || none_deletes xs p)
  safe_in_turn =
      ap (λ b. b || list_all (λ d. eqb d.0 (length xs) || not (has d.1.effects.del p) || is_before order (length xs) d.0) kids) linked_in_turn
      ∙ ap (λ b. adds_last xs p || b) (both_ways _ _ later_to later_back)
