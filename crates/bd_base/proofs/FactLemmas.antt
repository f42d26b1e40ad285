-- Laws of sets of facts, as lists that rise.
use Rattle.std.proofs.Common.{◌≡◌, ℕ, zero, suc, ◌<◌, ◌≤◌, Bool, true, false, cond, not, ◌&&◌, ◌||◌, eqb, List, [], ◌∷◌, length, get_or, refl, sym, ap, ◌∙◌, subst, inl, inr, arith, add-one, Result, Ok, Err, MatchResult}
use Rattle.std.specs.List.{insert, remove, Contains}
use Rattle.std.specs.List.Sorted.{IsBinarySearchResult, IsPermutation, IsStrictlyIncreasing}
use Rattle.std.specs.Ordering.{nat_cmp}
use Rattle.std.proofs.lemmas.List.Sorted.{searched, Contains-permutation, IsPermutation-sym}
use Rattle.std.proofs.lemmas.Bool.{ltb-true, ltb-false, lt-ltb, le-ltb, eq-eqb, ne_eqb, eqb-false, eqb-true, or_parts, or_cases, cases_order, cases_eq, both_ways, or_right, false_from_ne_true}
use Rattle.bd_base.specs.Facts.{IsBelowAll, IsRising, has, insert_fact, remove_fact, minus, plus}

pub IsBelowAll-weaker : (x y : ℕ) (s : List ℕ) → x < y → IsBelowAll y s → IsBelowAll x s
IsBelowAll-weaker x y [] lt b = tt
IsBelowAll-weaker x y (z ∷ s) lt b = (omega (arith, b.0), IsBelowAll-weaker x y s lt b.1)

pub IsBelowAll-get_or : (x : ℕ) (s : List ℕ) (i : ℕ) → IsBelowAll x s → i < length s → x < get_or s i 0
IsBelowAll-get_or x [] i b lt = absurd (omega arith)
IsBelowAll-get_or x (y ∷ s) zero b lt = b.0
IsBelowAll-get_or x (y ∷ s) (suc i) b lt = IsBelowAll-get_or x s i b.1 (omega arith)

-- places in a set that rises
pub rising_far : (s : List ℕ) (i j : ℕ) → IsRising s → i ≤ j → j < length s → get_or s i 0 ≤ get_or s j 0
rising_far [] i j r le lt = absurd (omega arith)
rising_far (x ∷ s) zero zero r le lt = omega arith
rising_far (x ∷ s) zero (suc j) r le lt = omega (arith, IsBelowAll-get_or x s j r.0 (omega arith))
rising_far (x ∷ s) (suc i) zero r le lt = absurd (omega arith)
rising_far (x ∷ s) (suc i) (suc j) r le lt = rising_far s i j r.1 (omega arith) (omega arith)

pub has_at : (s : List ℕ) (i f : ℕ) → i < length s → get_or s i 0 ≡ f → has s f ≡ true
has_at [] i f lt e = absurd (omega arith)
has_at (x ∷ s) zero f lt e = rw (eq-eqb x f e)
has_at (x ∷ s) (suc i) f lt e = or_right _ _ (has_at s i f (omega arith) e)

pub has_nowhere : (s : List ℕ) (f : ℕ) → ((k : ℕ) → k < length s → get_or s k 0 ≡ f → ⊥) → has s f ≡ false
has_nowhere [] f out = refl
has_nowhere (x ∷ s) f out = rw (ne_eqb x f (λ e. out zero (omega arith) e)) (has_nowhere s f (λ k lt e. out (suc k) (omega arith) e))

pub has_between : (s : List ℕ) (f i : ℕ) → ((k : ℕ) → k < i → get_or s k 0 < f) → ((k : ℕ) → i ≤ k → k < length s → f < get_or s k 0) → has s f ≡ false
has_between s f i below above =
    has_nowhere s f (λ k lt e. elim (Rattle.std.proofs.lemmas.Bool.cases_lt k i) [ inl l ↦ omega (arith, below k l) | inr g ↦ omega (arith, above k g lt) ])

pub insert-between : (s : List ℕ) (f i : ℕ) → i ≤ length s → ((k : ℕ) → k < i → get_or s k 0 < f) → ((k : ℕ) → i ≤ k → k < length s → f < get_or s k 0) → insert s i f ≡ insert_fact f s
insert-between [] f zero le below above = refl
insert-between [] f (suc i) le below above = absurd (omega arith)
insert-between (x ∷ s) f zero le below above = rw (lt-ltb f x (above zero (omega arith) (omega arith)))
insert-between (x ∷ s) f (suc i) le below above =
    let lt : x < f = below zero (omega arith) in
    rw (le-ltb f x (omega arith), lt-ltb x f lt)
    (ap (λ z. x ∷ z) (insert-between s f i (omega arith) (λ k l. below (suc k) (omega arith)) (λ k l m. above (suc k) (omega arith) (omega arith))))

filter_all : (f : ℕ) (s : List ℕ) → IsBelowAll f s → remove_fact f s ≡ s
filter_all f [] b = refl
filter_all f (x ∷ s) b = let lt : f < x = b.0 in rw (ne_eqb x f (omega arith)) (ap (λ z. x ∷ z) (filter_all f s b.1))

pub remove-at : (s : List ℕ) (i f : ℕ) → IsRising s → i < length s → get_or s i 0 ≡ f → remove s i ≡ remove_fact f s
remove-at [] i f r lt e = absurd (omega arith)
remove-at (x ∷ s) zero f r lt e = rw (eq-eqb x f e) (sym (filter_all f s (subst (λ z. IsBelowAll z s) e r.0)))
remove-at (x ∷ s) (suc i) f r lt e =
    let up = IsBelowAll-get_or x s i r.0 (omega arith) in
    rw (ne_eqb x f (omega arith)) (ap (λ z. x ∷ z) (remove-at s i f r.1 (omega arith) e))

pub remove_absent : (s : List ℕ) (f : ℕ) → has s f ≡ false → remove_fact f s ≡ s
remove_absent [] f out = refl
remove_absent (x ∷ s) f out =
    let parts = or_parts (eqb x f) (has s f) out in
    rw (parts.0) (ap (λ z. x ∷ z) (remove_absent s f parts.1))

pub insert_present : (s : List ℕ) (f : ℕ) → IsRising s → has s f ≡ true → insert_fact f s ≡ s
insert_present [] f r h = absurd (both_ways false refl h)
insert_present (x ∷ s) f r h = elim (cases_order f x) [
  | inl e ↦ rw (le-ltb f x (omega arith), le-ltb x f (omega arith))
  | inr (inl less) ↦ absurd (both_ways _ (has_below f (x ∷ s) (less, IsBelowAll-weaker f x s less r.0)) h)
  | inr (inr more) ↦ rw (le-ltb f x (omega arith), lt-ltb x f more) (ap (λ z. x ∷ z) (insert_present s f r.1 (rw (ne_eqb x f (omega arith)) at h)))
]
  where
    has_below : (f : ℕ) (s : List ℕ) → IsBelowAll f s → has s f ≡ false
    has_below f [] b = refl
    has_below f (x ∷ s) b = let lt : f < x = b.0 in rw (ne_eqb x f (omega arith)) (has_below f s b.1)

-- what is in a set after a change
pub has-insert_fact : (f : ℕ) (s : List ℕ) (q : ℕ) → has (insert_fact f s) q ≡ (eqb f q || has s q)
has-insert_fact f [] q = refl
has-insert_fact f (x ∷ s) q = elim (cases_order f x) [
  | inl e ↦ rw (le-ltb f x (omega arith), le-ltb x f (omega arith)) (subst (λ z. has (x ∷ s) q ≡ (eqb z q || has (x ∷ s) q)) (sym e) (twice (eqb x q) (has s q)))
  | inr (inl less) ↦ rw (lt-ltb f x less)
  | inr (inr more) ↦ rw (le-ltb f x (omega arith), lt-ltb x f more) (rw (has-insert_fact f s q) (swapped (eqb x q) (eqb f q) (has s q)))
]
  where
    twice : (a b : Bool) → (a || b) ≡ (a || (a || b))
    twice true b = refl
    twice false b = refl

    swapped : (a b c : Bool) → (a || (b || c)) ≡ (b || (a || c))
    swapped true true c = refl
    swapped true false c = refl
    swapped false true c = refl
    swapped false false c = refl

pub has-remove_fact : (f : ℕ) (s : List ℕ) (q : ℕ) → has (remove_fact f s) q ≡ (not (eqb f q) && has s q)
has-remove_fact f [] q = elim (eqb f q) as (λ b. false ≡ (not b && false)) [ true ↦ refl | false ↦ refl ]
has-remove_fact f (x ∷ s) q = elim (cases_eq x f) [
  | inl e ↦ rw (eq-eqb x f e) (has-remove_fact f s q ∙ subst (λ z. (not (eqb f q) && has s q) ≡ (not (eqb f q) && (eqb z q || has s q))) (sym e) (dropped (eqb f q) (has s q)))
  | inr ne ↦ rw (ne_eqb x f ne) (rw (has-remove_fact f s q) (elim (cases_eq x q) [
    | inl e ↦ rw (eq-eqb x q e, ne_eqb f q (λ g. ne (e ∙ sym g)))
    | inr other ↦ rw (ne_eqb x q other)
  ]))
]
  where
    dropped : (a b : Bool) → (not a && b) ≡ (not a && (a || b))
    dropped true b = refl
    dropped false b = refl

-- a set that is changed still rises
below-insert_fact : (x f : ℕ) (s : List ℕ) → x < f → IsBelowAll x s → IsBelowAll x (insert_fact f s)
below-insert_fact x f [] lt b = (lt, tt)
below-insert_fact x f (y ∷ s) lt b = elim (cases_order f y) [
  | inl e ↦ rw (le-ltb f y (omega arith), le-ltb y f (omega arith)) b
  | inr (inl less) ↦ rw (lt-ltb f y less) (lt, b)
  | inr (inr more) ↦ rw (le-ltb f y (omega arith), lt-ltb y f more) (b.0, below-insert_fact x f s lt b.1)
]

pub rising-insert_fact : (f : ℕ) (s : List ℕ) → IsRising s → IsRising (insert_fact f s)
rising-insert_fact f [] r = (tt, tt)
rising-insert_fact f (x ∷ s) r = elim (cases_order f x) [
  | inl e ↦ rw (le-ltb f x (omega arith), le-ltb x f (omega arith)) r
  | inr (inl less) ↦ rw (lt-ltb f x less) ((less, IsBelowAll-weaker f x s less r.0), r)
  | inr (inr more) ↦ rw (le-ltb f x (omega arith), lt-ltb x f more) (below-insert_fact x f s more r.0, rising-insert_fact f s r.1)
]

below-remove_fact : (x f : ℕ) (s : List ℕ) → IsBelowAll x s → IsBelowAll x (remove_fact f s)
below-remove_fact x f [] b = tt
below-remove_fact x f (y ∷ s) b = elim (eqb y f) as (λ t. IsBelowAll x (cond (not t) (y ∷ remove_fact f s) (remove_fact f s))) [
  | true ↦ below-remove_fact x f s b.1
  | false ↦ (b.0, below-remove_fact x f s b.1)
]

pub rising-remove_fact : (f : ℕ) (s : List ℕ) → IsRising s → IsRising (remove_fact f s)
rising-remove_fact f [] r = tt
rising-remove_fact f (y ∷ s) r = elim (eqb y f) as (λ t. IsRising (cond (not t) (y ∷ remove_fact f s) (remove_fact f s))) [
  | true ↦ rising-remove_fact f s r.1
  | false ↦ (below-remove_fact y f s r.0, rising-remove_fact f s r.1)
]

-- what a binary search in a set says
pub record Found (s : List ℕ) (f i : ℕ) : Type 0 where
  pub within : i < length s
  pub is_in : has s f ≡ true
  pub unchanged : insert_fact f s ≡ s
  pub removed : remove s i ≡ remove_fact f s

pub record Missed (s : List ℕ) (f i : ℕ) : Type 0 where
  pub within : i ≤ length s
  pub is_out : has s f ≡ false
  pub inserted : insert s i f ≡ insert_fact f s
  pub unchanged : remove_fact f s ≡ s

pub sought : (s t : List ℕ) (f : ℕ) (r : Result ℕ ℕ) → t ≡ s → IsBinarySearchResult (λ y. nat_cmp y f) t r → IsRising s → MatchResult r (Found s f) (Missed s f)
sought s t f r e h up = sought_of r (searched s f r (subst (λ z. IsBinarySearchResult (λ y. nat_cmp y f) z r) e h) (λ i j. rising_far s i j up))
  where
    sought_of : (r : Result ℕ ℕ) → MatchResult r (λ i. (i < length s) × (get_or s i 0 ≡ f)) (λ i. (i ≤ length s) × ((k : ℕ) → k < i → get_or s k 0 < f) × ((k : ℕ) → i ≤ k → k < length s → f < get_or s k 0)) → MatchResult r (Found s f) (Missed s f)
    sought_of (Ok i) m =
        let here = has_at s i f m.0 m.1 in
        record { within = m.0; is_in = here; unchanged = insert_present s f up here; removed = remove-at s i f up m.0 m.1 }
    sought_of (Err i) m =
        let out = has_between s f i m.1 m.2 in
        record { within = m.0; is_out = out; inserted = insert-between s f i m.0 m.1 m.2; unchanged = remove_absent s f out }

-- two sets with the same facts are one
pub below_has : (x : ℕ) (s : List ℕ) → IsBelowAll x s → (q : ℕ) → has s q ≡ true → x < q
below_has x [] b q h = absurd (both_ways false refl h)
below_has x (y ∷ s) b q h = elim (Rattle.std.proofs.lemmas.Bool.or_cases (eqb y q) (has s q) h) [
  | inl e ↦ let same = eqb-true y q e in omega (arith, b.0)
  | inr later ↦ below_has x s b.1 q later
]

below_out : (x : ℕ) (s : List ℕ) → IsBelowAll x s → has s x ≡ false
below_out x s b = false_from_ne_true (has s x) (λ h. let z = below_has x s b x h in omega arith)

tails_same : (x : ℕ) (s t : List ℕ) → IsBelowAll x s → IsBelowAll x t → ((q : ℕ) → has (x ∷ s) q ≡ has (x ∷ t) q) → (q : ℕ) → has s q ≡ has t q
tails_same x s t b d h q = elim (cases_eq x q) [
  | inl e ↦ subst (λ z. has s z ≡ has t z) e (below_out x s b ∙ sym (below_out x t d))
  | inr ne ↦ rw (ne_eqb x q ne) at (h q)
]

head_in : (x : ℕ) (s : List ℕ) → has (x ∷ s) x ≡ true
head_in x s = rw (eq-eqb x x refl)

no_less : (x y : ℕ) (t : List ℕ) → IsBelowAll y t → x < y → has (y ∷ t) x ≡ true → ⊥
no_less x y t b lt e = elim (Rattle.std.proofs.lemmas.Bool.or_cases (eqb y x) (has t x) e) [
  | inl same ↦ let z = eqb-true y x same in omega arith
  | inr later ↦ let z = below_has y t b x later in omega arith
]

pub rising_same : (s t : List ℕ) → IsRising s → IsRising t → ((q : ℕ) → has s q ≡ has t q) → s ≡ t
rising_same [] [] r u h = refl
rising_same [] (y ∷ t) r u h = absurd (both_ways false refl (h y ∙ head_in y t))
rising_same (x ∷ s) [] r u h = absurd (both_ways false refl (sym (h x) ∙ head_in x s))
rising_same (x ∷ s) (y ∷ t) r u h = elim (cases_order x y) [
  | inl e ↦ subst (λ z. IsBelowAll z t → ((q : ℕ) → has (x ∷ s) q ≡ has (z ∷ t) q) → x ∷ s ≡ z ∷ t) e
      (λ b g. ap (λ w. x ∷ w) (rising_same s t r.1 u.1 (tails_same x s t r.0 b g))) u.0 h
  | inr (inl less) ↦ absurd (no_less x y t u.0 less (sym (h x) ∙ head_in x s))
  | inr (inr more) ↦ absurd (no_less y x s r.0 more (h y ∙ head_in y t))
]

-- a set with the facts of a list
pub has-plus : (s xs : List ℕ) (q : ℕ) → has (plus s xs) q ≡ (has xs q || has s q)
has-plus s [] q = refl
has-plus s (x ∷ xs) q = has-plus (insert_fact x s) xs q ∙ ap (λ b. has xs q || b) (has-insert_fact x s q) ∙ turned (has xs q) (eqb x q) (has s q)
  where
    turned : (a b c : Bool) → (a || (b || c)) ≡ ((b || a) || c)
    turned true true c = refl
    turned true false c = refl
    turned false true c = refl
    turned false false c = refl

pub has-minus : (s xs : List ℕ) (q : ℕ) → has (minus s xs) q ≡ (not (has xs q) && has s q)
has-minus s [] q = refl
has-minus s (x ∷ xs) q = has-minus (remove_fact x s) xs q ∙ ap (λ b. not (has xs q) && b) (has-remove_fact x s q) ∙ turned (has xs q) (eqb x q) (has s q)
  where
    turned : (a b c : Bool) → (not a && (not b && c)) ≡ (not (b || a) && c)
    turned true true c = refl
    turned true false c = refl
    turned false true c = refl
    turned false false c = refl

pub rising-plus : (s xs : List ℕ) → IsRising s → IsRising (plus s xs)
rising-plus s [] r = r
rising-plus s (x ∷ xs) r = rising-plus (insert_fact x s) xs (rising-insert_fact x s r)

pub rising-minus : (s xs : List ℕ) → IsRising s → IsRising (minus s xs)
rising-minus s [] r = r
rising-minus s (x ∷ xs) r = rising-minus (remove_fact x s) xs (rising-remove_fact x s r)

-- a set of facts put in one by one is the same set, whatever their order
pub has_from_Contains : (s : List ℕ) (f : ℕ) → Contains s f → has s f ≡ true
has_from_Contains s f c = at s c.0 c.1 c.2
  where
    at : (s : List ℕ) (k : ℕ) → k < length s → get_or s k f ≡ f → has s f ≡ true
    at [] k lt e = absurd (omega arith)
    at (x ∷ s) zero lt e = rw (eq-eqb x f e)
    at (x ∷ s) (suc k) lt e = or_right _ _ (at s k (omega arith) e)

pub Contains_from_has : (s : List ℕ) (f : ℕ) → has s f ≡ true → Contains s f
Contains_from_has [] f h = absurd (both_ways false refl h)
Contains_from_has (x ∷ s) f h = elim (or_cases (eqb x f) (has s f) h) [
  | inl e ↦ (zero, omega arith, eqb-true x f e)
  | inr later ↦ let c = Contains_from_has s f later in (suc c.0, (let lt : c.0 < length s = c.1 in omega arith), c.2)
]

pub rising_from_steps : (s : List ℕ) → ((k : ℕ) → suc k < length s → get_or s k 0 < get_or s (suc k) 0) → IsRising s
rising_from_steps [] h = tt
rising_from_steps (x ∷ []) h = (tt, tt)
rising_from_steps (x ∷ y ∷ s) h =
    let rest : IsRising (y ∷ s) = rising_from_steps (y ∷ s) (λ k lt. h (suc k) (omega arith)) in
    let less : x < y = h zero (omega arith) in
    ((less, IsBelowAll-weaker x y s less rest.0), rest)

pub rising_from_increasing : (s : List ℕ) → IsStrictlyIncreasing s → IsRising s
rising_from_increasing s h = rising_from_steps s (λ k lt. rw add-one at (h k (omega arith)))

-- the order of a list doesn't matter to the set of its facts
pub permuted_set : (xs ys : List ℕ) → IsPermutation xs ys → plus [] ys ≡ plus [] xs
permuted_set xs ys p =
    rising_same (plus [] ys) (plus [] xs) (rising-plus [] ys tt) (rising-plus [] xs tt)
    (λ q. has-plus [] ys q ∙ ap (λ b. b || false) (members q) ∙ sym (has-plus [] xs q))
  where
    both : (a b : Bool) → (a ≡ true → b ≡ true) → (b ≡ true → a ≡ true) → a ≡ b
    both true b there back = sym (there refl)
    both false true there back = back refl
    both false false there back = refl

    members : (q : ℕ) → has ys q ≡ has xs q
    members q = both (has ys q) (has xs q)
        (λ h. has_from_Contains xs q (Contains-permutation ys xs q (IsPermutation-sym xs ys p) (Contains_from_has ys q h)))
        (λ h. has_from_Contains ys q (Contains-permutation xs ys q p (Contains_from_has xs q h)))
