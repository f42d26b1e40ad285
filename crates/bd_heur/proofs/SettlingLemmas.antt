-- Labels on the way to the values of a state: each move, and the end.
use Rattle.std.proofs.Common.{◌≡◌, ℕ, zero, suc, ◌+◌, ◌<◌, ◌≤◌, Bool, true, false, cond, eqb, List, [], ◌∷◌, ◌++◌, length, length-append, set, get_or, Option, Some, None, Vec, Global, refl, sym, ap, ◌∙◌, subst, inl, inr, ◌⊎◌, arith, slice_get, length-set, drop, add-one}
use Rattle.std.specs.List.{Contains}
use Rattle.std.specs.List.Sorted.{IsPermutation}
use Rattle.std.proofs.lemmas.List.Sorted.{Contains-permutation, length_permutation}
use Rattle.std.proofs.lemmas.Bool.{both_ways, or_cases, or_left, or_right, eq-eqb, eqb-true, cases_eq, cases_lt}
use Rattle.std.proofs.lemmas.Option.{slice_get_within, slice_get_read}
use Rattle.bd_base.specs.Facts.{has}
use Rattle.bd_task.specs.TaskView.{TaskView, IsTask, IsAction, AreActions, AreBelow}
use Rattle.bd_task.specs.declared.ground.Action.{Action}
use Rattle.bd_heur.specs.declared.join.Join.{Join}
use Rattle.bd_heur.specs.Relaxed.{joined, value_of_all, after_cost, value_by, least_by, relaxed_value, IsWithin}
use Rattle.bd_heur.specs.Tables.{value_in, HasRounds}
use Rattle.bd_heur.proofs.OrderLemmas as order
use Rattle.bd_heur.proofs.OrderLemmas.{within_refl, within_le, action_le, least_cases}
use Rattle.bd_heur.proofs.RoundLemmas.{v_closed, v_least}
use Rattle.bd_heur.proofs.OrderLemmas.{same_values}
use Rattle.bd_heur.specs.Settling.{In, here, there, IsAwaited, IsMet, IsSettling, rank, ranks, weight, IsPut, IsLowered, IsLoweredTo, IsRelaxed, IsStart}
use Rattle.bd_heur.specs.Index.{row_at, IsRowOf, AreRows, AreNeeders}
use Rattle.bd_heur.specs.declared.index.ActionRow.{ActionRow}
use Rattle.bd_heur.specs.declared.queue.Waiting.{Waiting}

pub none_some : {A : Type 0} (a : A) → None ≡ Some a → ⊥
none_some a e = cc

pub some_is : {A : Type 0} (a b : A) → Some a ≡ Some b → a ≡ b
some_is a b e = cc

-- waiting facts in lists
In-get_or : (e : Waiting) (xs : List Waiting) (k : ℕ) (d : Waiting) → k < length xs → get_or xs k d ≡ e → In e xs
In-get_or e [] k d lt is = absurd (omega arith)
In-get_or e (x ∷ xs) zero d lt is = subst (λ z. In z (x ∷ xs)) is here
In-get_or e (x ∷ xs) (suc k) d lt is = there (In-get_or e xs k d (omega arith) is)

contains-In : (e : Waiting) (xs : List Waiting) → In e xs → Contains xs e
contains-In e [] i = elim i [ ]
contains-In e (d ∷ xs) here = (zero, omega arith, refl)
contains-In e (d ∷ xs) (there i) = let c = contains-In e xs i in (suc c.0, (let lt : c.0 < length xs = c.1 in omega arith), c.2)

pub In-permutation : (e : Waiting) (xs ys : List Waiting) → IsPermutation xs ys → In e xs → In e ys
In-permutation e xs ys p i = let c = Contains-permutation xs ys e p (contains-In e xs i) in In-get_or e ys c.0 e c.1 c.2

In_first : (e d : Waiting) (xs : List Waiting) → In e (d ∷ xs) → In e xs ⊎ (e ≡ d)
In_first e d xs here = inr refl
In_first e d xs (there i) = inl i

-- actions by number
pub get_In : (a : Action) (xs : List Action) (x : ℕ) → slice_get xs x ≡ Some a → order.In a xs
get_In a [] x e = absurd (none_some a e)
get_In a (y ∷ xs) zero e = subst (λ z. order.In z (y ∷ xs)) (some_is y a e) order.here
get_In a (y ∷ xs) (suc x) e = order.there (get_In a xs x e)

pub In_get : (a : Action) (xs : List Action) → order.In a xs → (x : ℕ) × (slice_get xs x ≡ Some a)
In_get a [] i = elim i [ ]
In_get a (y ∷ xs) order.here = (zero, refl)
In_get a (y ∷ xs) (order.there i) = let p = In_get a xs i in (suc p.0, p.1)

pub below_at : (n : ℕ) (xs : List ℕ) (p : ℕ) → AreBelow n xs → has xs p ≡ true → p < n
below_at n [] p b i = absurd (both_ways false refl i)
below_at n (x ∷ xs) p b i = elim (or_cases (eqb x p) (has xs p) i) [ inl same ↦ subst (λ z. z < n) (eqb-true x p same) b.0 | inr later ↦ below_at n xs p b.1 later ]

pub action_at : (n : ℕ) (xs : List Action) (a : Action) → AreActions n xs → order.In a xs → IsAction n a
action_at n [] a are i = elim i [ ]
action_at n (y ∷ xs) a are order.here = are.0
action_at n (y ∷ xs) a are (order.there i) = action_at n xs a are.1 i

-- tables
value_in-set_same : (t : List (Option ℕ)) (i : ℕ) (x : Option ℕ) → i < length t → value_in (set t i x) i ≡ x
value_in-set_same [] i x lt = absurd (omega arith)
value_in-set_same (y ∷ t) zero x lt = refl
value_in-set_same (y ∷ t) (suc i) x lt = value_in-set_same t i x (omega arith)

value_in-set_other : (t : List (Option ℕ)) (i q : ℕ) (x : Option ℕ) → (i ≡ q → ⊥) → value_in (set t i x) q ≡ value_in t q
value_in-set_other [] i q x ne = refl
value_in-set_other (y ∷ t) zero zero x ne = absurd (ne refl)
value_in-set_other (y ∷ t) zero (suc q) x ne = refl
value_in-set_other (y ∷ t) (suc i) zero x ne = refl
value_in-set_other (y ∷ t) (suc i) (suc q) x ne = value_in-set_other t i q x (λ e. ne (ap suc e))

pub value_in-past : (t : List (Option ℕ)) (p : ℕ) → length t ≤ p → value_in t p ≡ None
value_in-past [] p le = refl
value_in-past (y ∷ t) zero le = absurd (omega arith)
value_in-past (y ∷ t) (suc p) le = value_in-past t p (omega arith)

ranks-set : (t : List (Option ℕ)) (i v : ℕ) → i < length t → v < rank (value_in t i) → ranks (set t i (Some v)) < ranks t
ranks-set [] i v lt less = absurd (omega arith)
ranks-set (y ∷ t) zero v lt less = omega (arith, less)
ranks-set (y ∷ t) (suc i) v lt less = let h = ranks-set t i v (omega arith) less in omega (arith, h)

lower_within : (v : ℕ) (old : Option ℕ) → v < rank old → IsWithin 0 (Some v) old
lower_within v None lt = tt
lower_within v (Some old) lt = omega arith

at_last : (t : List (Option ℕ)) (p : ℕ) (x : Option ℕ) → length t ≡ p → value_in (t ++ x ∷ []) p ≡ x
at_last [] zero x e = refl
at_last [] (suc p) x e = absurd (omega arith)
at_last (y ∷ t) zero x e = absurd (omega arith)
at_last (y ∷ t) (suc p) x e = at_last t p x (omega arith)

at_first : (t : List (Option ℕ)) (p : ℕ) (x : Option ℕ) → p < length t → value_in (t ++ x ∷ []) p ≡ value_in t p
at_first [] p x lt = absurd (omega arith)
at_first (y ∷ t) zero x lt = refl
at_first (y ∷ t) (suc p) x lt = at_first t p x (omega arith)

module _ (value : ℕ) (facts : List ℕ) (table : List (Option ℕ)) (queue : List Waiting) where
  pub lowered_start : IsLowered value facts facts table queue table queue
  lowered_start = record {
    len = refl;
    within = λ r i. i;
    kept = λ w i. i;
    each = λ r. inl refl;
    less = λ r. within_refl 0 (value_in table r);
    met = λ r lt i. inl i;
    light = omega arith;
  }

  first_or : (p r : ℕ) (rest : List ℕ) → has (p ∷ rest) r ≡ true → (p ≡ r) ⊎ (has rest r ≡ true)
  first_or p r rest i = elim (or_cases (eqb p r) (has rest r) i) [ inl same ↦ inl (eqb-true p r same) | inr later ↦ inr later ]

  pub lowered_more : (p : ℕ) (items rest : List ℕ) (t1 : List (Option ℕ)) (q1 : List Waiting) (t2 : List (Option ℕ)) (q2 : List Waiting) → items ≡ p ∷ rest → IsLowered value items facts table queue t1 q1 →
      IsPut value p t1 q1 t2 q2 → IsLowered value rest facts table queue t2 q2
  lowered_more p items rest t1 q1 t2 q2 is l put = by (subst (λ z. IsLowered value z facts table queue t1 q1) is l) put
    where
      by : IsLowered value (p ∷ rest) facts table queue t1 q1 → IsPut value p t1 q1 t2 q2 → IsLowered value rest facts table queue t2 q2
      by l (inl same) = subst (λ z. IsLowered value rest facts table queue z q2) (sym same.0) (subst (λ z. IsLowered value rest facts table queue t1 z) (sym same.1) (record {
        len = l.len;
        within = λ r i. l.within r (or_right _ _ i);
        kept = l.kept;
        each = l.each;
        less = l.less;
        met = λ r lt i. elim (l.met r lt i) [
          | inl j ↦ elim (first_or p r rest j) [
            | inl e ↦ inr (subst (λ z. IsWithin 0 (value_in t1 z) (Some value)) e (same.2 (subst (λ z. z < length t1) (sym e) (subst (λ z. r < z) (sym l.len) lt))))
            | inr later ↦ inl later
          ]
          | inr le ↦ inr le
        ];
        light = l.light;
      }))
      by l (inr new) = subst (λ z. IsLowered value rest facts table queue z q2) (sym new.1) (record {
        len = length-set t1 p (Some value) ∙ l.len;
        within = λ r i. l.within r (or_right _ _ i);
        kept = λ w i. to_new w (l.kept w i);
        each = λ r. elim (cases_eq p r) [
          | inl e ↦ subst (λ z. (value_in (set t1 p (Some value)) z ≡ value_in table z) ⊎ ((has facts z ≡ true) × (value_in (set t1 p (Some value)) z ≡ Some value) × In (record { value = value; fact = z }) q2)) e
              (inr (l.within p (or_left _ _ (eq-eqb p p refl)), value_in-set_same t1 p (Some value) new.0, In-permutation _ (record { value = value; fact = p } ∷ q1) q2 new.2 here))
          | inr ne ↦ elim (l.each r) [
            | inl same ↦ inl (value_in-set_other t1 p r (Some value) ne ∙ same)
            | inr put ↦ inr (put.0, value_in-set_other t1 p r (Some value) ne ∙ put.1, to_new _ put.2)
          ]
        ];
        less = λ r. elim (cases_eq p r) [
          | inl e ↦ subst (λ z. IsWithin 0 (value_in (set t1 p (Some value)) z) (value_in table z)) e
              (subst (λ z. IsWithin 0 z (value_in table p)) (sym (value_in-set_same t1 p (Some value) new.0)) (within_le 0 (Some value) (value_in t1 p) (value_in table p) (lower_within value (value_in t1 p) new.3) (l.less p)))
          | inr ne ↦ subst (λ z. IsWithin 0 z (value_in table r)) (sym (value_in-set_other t1 p r (Some value) ne)) (l.less r)
        ];
        met = λ r lt i. elim (cases_eq p r) [
          | inl e ↦ inr (subst (λ z. IsWithin 0 (value_in (set t1 p (Some value)) z) (Some value)) e (subst (λ z. IsWithin 0 z (Some value)) (sym (value_in-set_same t1 p (Some value) new.0)) (within_refl 0 (Some value))))
          | inr ne ↦ elim (l.met r lt i) [
            | inl j ↦ elim (first_or p r rest j) [ inl e ↦ absurd (ne e) | inr later ↦ inl later ]
            | inr le ↦ inr (subst (λ z. IsWithin 0 z (Some value)) (sym (value_in-set_other t1 p r (Some value) ne)) le)
          ]
        ];
        light = (let fewer = ranks-set t1 p value new.0 new.3 in let count = length_permutation (record { value = value; fact = p } ∷ q1) q2 new.2 in let before = l.light in omega (arith, fewer, count, before));
      })
        where
          to_new : (w : Waiting) → In w q1 → In w q2
          to_new w i = In-permutation w (record { value = value; fact = p } ∷ q1) q2 new.2 (there i)

all_same : (join : Join) (u w : ℕ → Option ℕ) (value : Option ℕ) (ps : List ℕ) → ((r : ℕ) → has ps r ≡ true → u r ≡ w r) → value_of_all join u value ps ≡ value_of_all join w value ps
all_same join u w value [] each = refl
all_same join u w value (p ∷ ps) each = rw (each p (or_left _ _ (eq-eqb p p refl))) (all_same join u w (joined join value (w p)) ps (λ r i. each r (or_right _ _ i)))

none_all : (join : Join) (u : ℕ → Option ℕ) (ps : List ℕ) → value_of_all join u None ps ≡ None
none_all join u [] = refl
none_all join u (p ∷ ps) = none_all join u ps

-- either no label of a list changed or one that did waits
either_way : (t t2 : List (Option ℕ)) (q2 : List Waiting) (ps : List ℕ) → ((r : ℕ) → (value_in t2 r ≡ value_in t r) ⊎ IsAwaited t2 q2 r) →
    ((r : ℕ) → has ps r ≡ true → value_in t2 r ≡ value_in t r) ⊎ ((r : ℕ) × (has ps r ≡ true) × IsAwaited t2 q2 r)
either_way t t2 q2 [] each = inl (λ r i. absurd (both_ways false refl i))
either_way t t2 q2 (p ∷ ps) each = elim (each p) [
  | inr waits ↦ inr (p, or_left _ _ (eq-eqb p p refl), waits)
  | inl same ↦ elim (either_way t t2 q2 ps each) [
    | inr one ↦ inr (one.0, or_right _ _ one.1, one.2)
    | inl all ↦ inl (λ r i. elim (or_cases (eqb p r) (has ps r) i) [ inl e ↦ subst (λ z. value_in t2 z ≡ value_in t z) (eqb-true p r e) same | inr later ↦ all r later ])
  ]
]

module _ (join : Join) (task : TaskView) (s : List ℕ) (is : IsTask task) where
  abbrev n : ℕ
  n = length task.facts

  abbrev v : ℕ → Option ℕ
  v p = relaxed_value join task s n p

  one_or_rest : (x y : ℕ) (rest : List ℕ) → has (x ∷ rest) y ≡ true → (x ≡ y) ⊎ (has rest y ≡ true)
  one_or_rest x y rest i = elim (or_cases (eqb x y) (has rest y) i) [ inl same ↦ inl (eqb-true x y same) | inr later ↦ inr later ]

  -- what an action adds is lowered to what it gives
  lowered_settling : (x : ℕ) (rest : List ℕ) (a : Action) (value : ℕ) (t : List (Option ℕ)) (q : List Waiting) (t2 : List (Option ℕ)) (q2 : List Waiting) → slice_get task.actions x ≡ Some a →
      value_by join (value_in t) a ≡ Some value → IsSettling join task s t q (x ∷ rest) → IsLowered value [] a.add t q t2 q2 → IsSettling join task s t2 q2 rest
  lowered_settling x rest a value t q t2 q2 at e h l = record {
    len = l.len ∙ h.len;
    above = λ p. elim (l.each p) [
      | inl same ↦ subst (λ z. IsWithin 0 (v p) z) (sym same) (h.above p)
      | inr put ↦ subst (λ z. IsWithin 0 (v p) z) (sym put.1)
          (within_le 0 (v p) (value_by join v a) (Some value) (v_closed join task s is p a (get_In a task.actions x at) put.0)
          (subst (λ z. IsWithin 0 (value_by join v a) z) e (action_le join v (value_in t) a (λ r i. h.above r))))
    ];
    start = λ p lt i. within_le 0 (value_in t2 p) (value_in t p) (Some 0) (l.less p) (h.start p lt i);
    met = λ y b g. elim (either_way t t2 q2 b.pre changed) [
      | inr waits ↦ inr (inr waits)
      | inl same ↦ unchanged y b g same (h.met y b g)
    ];
  }
    where
      changed : (r : ℕ) → (value_in t2 r ≡ value_in t r) ⊎ IsAwaited t2 q2 r
      changed r = elim (l.each r) [ inl same ↦ inl same | inr put ↦ inr (value, put.1, put.2) ]

      lowered_at : (p : ℕ) → has a.add p ≡ true → IsWithin 0 (value_in t2 p) (Some value)
      lowered_at p i = elim (l.met p (subst (λ z. p < z) (sym h.len) (below_at n a.add p (action_at n task.actions a is.actions (get_In a task.actions x at)).add i)) i) [
        | inl none ↦ absurd (both_ways false refl none)
        | inr le ↦ le
      ]

      unchanged : (y : ℕ) (b : Action) → slice_get task.actions y ≡ Some b → ((r : ℕ) → has b.pre r ≡ true → value_in t2 r ≡ value_in t r) → (has (x ∷ rest) y ≡ true) ⊎ IsMet join t q b → (has rest y ≡ true) ⊎ IsMet join t2 q2 b
      unchanged y b g same (inl i) = elim (one_or_rest x y rest i) [
        | inr later ↦ inl later
        | inl e2 ↦ inr (inl (λ p adds.
            let is_b = some_is a b (sym at ∙ ap (slice_get task.actions) e2 ∙ g) in
            subst (λ z. IsWithin 0 (value_in t2 p) z) (sym (value_same b same ∙ ap (λ (z : Action). value_by join (value_in t) z) (sym is_b) ∙ e)) (lowered_at p (ap (λ (z : Action). has z.add p) is_b ∙ adds))))
      ]
        where
          value_same : (b : Action) → ((r : ℕ) → has b.pre r ≡ true → value_in t2 r ≡ value_in t r) → value_by join (value_in t2) b ≡ value_by join (value_in t) b
          value_same b same = ap (after_cost b.cost) (all_same join (value_in t2) (value_in t) (Some 0) b.pre same)
      unchanged y b g same (inr (inl each)) = inr (inl (λ p adds.
          subst (λ z. IsWithin 0 (value_in t2 p) z) (sym (ap (after_cost b.cost) (all_same join (value_in t2) (value_in t) (Some 0) b.pre same))) (within_le 0 (value_in t2 p) (value_in t p) _ (l.less p) (each p adds))))
      unchanged y b g same (inr (inr w)) = inr (inr (w.0, w.1, (w.2.0, same w.0 w.1 ∙ w.2.1, l.kept _ w.2.2)))

  pub relaxed_settling : (x : ℕ) (items rest : List ℕ) (t : List (Option ℕ)) (q : List Waiting) (t2 : List (Option ℕ)) (q2 : List Waiting) → items ≡ x ∷ rest →
      IsSettling join task s t q items → IsRelaxed join (slice_get task.actions x) t q t2 q2 → IsSettling join task s t2 q2 rest
  relaxed_settling x items rest t q t2 q2 e h r = at (slice_get task.actions x) refl (subst (λ z. IsSettling join task s t q z) e h) r
    where
      skip : (a : Option Action) → slice_get task.actions x ≡ a → ((b : Action) → a ≡ Some b → IsMet join t q b) → IsSettling join task s t q (x ∷ rest) → IsSettling join task s t q rest
      skip a g met h = record {
        len = h.len;
        above = h.above;
        start = h.start;
        met = λ y b gb. elim (h.met y b gb) [
          | inl i ↦ elim (one_or_rest x y rest i) [ inl same ↦ inr (met b (sym g ∙ ap (slice_get task.actions) same ∙ gb)) | inr later ↦ inl later ]
          | inr m ↦ inr m
        ];
      }

      moved : IsSettling join task s t q rest → t2 ≡ t → q2 ≡ q → IsSettling join task s t2 q2 rest
      moved h et eq = subst (λ z. IsSettling join task s z q2 rest) (sym et) (subst (λ z. IsSettling join task s t z rest) (sym eq) h)

      by_value : (a : Action) → slice_get task.actions x ≡ Some a → (o : Option ℕ) → value_by join (value_in t) a ≡ o → IsSettling join task s t q (x ∷ rest) → IsLoweredTo o a.add t q t2 q2 → IsSettling join task s t2 q2 rest
      by_value a g None e h r = moved (skip (Some a) g (λ b same. inl (λ p adds. subst (λ (z : Action). IsWithin 0 (value_in t p) (value_by join (value_in t) z)) (some_is a b same) (subst (λ z. IsWithin 0 (value_in t p) z) (sym e) tt))) h) r.0 r.1
      by_value a g (Some value) e h r = lowered_settling x rest a value t q t2 q2 g e h r

      at : (o : Option Action) → slice_get task.actions x ≡ o → IsSettling join task s t q (x ∷ rest) → IsRelaxed join o t q t2 q2 → IsSettling join task s t2 q2 rest
      at None g h r = moved (skip None g (λ b same. absurd (none_some b same)) h) r.0 r.1
      at (Some a) g h r = by_value a g (value_by join (value_in t) a) refl h r

  pub light_relaxed : (o : Option Action) (t : List (Option ℕ)) (q : List Waiting) (t2 : List (Option ℕ)) (q2 : List Waiting) → IsRelaxed join o t q t2 q2 → weight t2 q2 ≤ weight t q
  light_relaxed None t q t2 q2 r = by r.0 r.1
    where
      by : t2 ≡ t → q2 ≡ q → weight t2 q2 ≤ weight t q
      by et eq = rw (et, eq) (omega arith)
  light_relaxed (Some a) t q t2 q2 r = at (value_by join (value_in t) a) r
    where
      at : (o : Option ℕ) → IsLoweredTo o a.add t q t2 q2 → weight t2 q2 ≤ weight t q
      at None r = by r.0 r.1
        where
          by : t2 ≡ t → q2 ≡ q → weight t2 q2 ≤ weight t q
          by et eq = rw (et, eq) (omega arith)
      at (Some value) r = r.light

  -- a fact that waits is taken out
  pub stale : (t : List (Option ℕ)) (q q2 : List Waiting) (w : Waiting) → IsPermutation q (w ∷ q2) → (value_in t w.fact ≡ Some w.value → ⊥) → IsSettling join task s t q [] → IsSettling join task s t q2 []
  stale t q q2 w taken old h = record {
    len = h.len;
    above = h.above;
    start = h.start;
    met = λ y b g. elim (h.met y b g) [ inl none ↦ inl none | inr m ↦ inr (still b m) ];
  }
    where
      still : (b : Action) → IsMet join t q b → IsMet join t q2 b
      still b (inl each) = inl each
      still b (inr m) = elim (In_first _ w q2 (In-permutation _ q (w ∷ q2) taken m.2.2)) [
        | inl later ↦ inr (m.0, m.1, (m.2.0, m.2.1, later))
        | inr same ↦ absurd (old (ap (λ (z : Waiting). value_in t z.fact) (sym same) ∙ m.2.1 ∙ ap (λ (z : Waiting). Some z.value) same))
      ]

  pub taken_out : (needers : List (Vec ℕ Global)) (free row : List ℕ) (t : List (Option ℕ)) (q q2 : List Waiting) (w : Waiting) → AreNeeders task (length task.actions) needers free → row ≡ row_at needers w.fact →
      IsPermutation q (w ∷ q2) → IsSettling join task s t q [] → IsSettling join task s t q2 row
  taken_out needers free row t q q2 w index is_row taken h = record {
    len = h.len;
    above = h.above;
    start = h.start;
    met = λ y b g. elim (h.met y b g) [ inl none ↦ absurd (both_ways false refl none) | inr m ↦ still y b g m ];
  }
    where
      still : (y : ℕ) (b : Action) → slice_get task.actions y ≡ Some b → IsMet join t q b → (has row y ≡ true) ⊎ IsMet join t q2 b
      still y b g (inl each) = inr (inl each)
      still y b g (inr m) = elim (In_first _ w q2 (In-permutation _ q (w ∷ q2) taken m.2.2)) [
        | inl later ↦ inr (inr (m.0, m.1, (m.2.0, m.2.1, later)))
        | inr same ↦ inl (ap (λ z. has z y) is_row ∙ index.each y w.fact b (slice_get_within task.actions y b g) g (ap (λ (z : Waiting). has b.pre z.fact) (sym same) ∙ m.1))
      ]

  pub start_settling : (needers : List (Vec ℕ Global)) (free row : List ℕ) (t : List (Option ℕ)) (q : List Waiting) → AreNeeders task (length task.actions) needers free → row ≡ free → IsStart s n t q → IsSettling join task s t q row
  start_settling needers free row t q index is_row h = record {
    len = h.len;
    above = λ p. elim (cases_lt p n) [
      | inl lt ↦ subst (λ z. IsWithin 0 (v p) z) (sym (h.values p lt)) (v_least join task s is n p)
      | inr le ↦ subst (λ z. IsWithin 0 (v p) z) (sym (value_in-past t p (subst (λ z. z ≤ p) (sym h.len) le))) tt
    ];
    start = λ p lt i. subst (λ z. IsWithin 0 z (Some 0)) (sym (h.values p lt ∙ ap (λ b. cond b (Some 0) None) i)) (within_refl 0 (Some 0));
    met = λ y b g. at y b g b.pre refl;
  }
    where
      at : (y : ℕ) (b : Action) → slice_get task.actions y ≡ Some b → (ps : List ℕ) → b.pre ≡ ps → (has row y ≡ true) ⊎ IsMet join t q b
      at y b g [] e = inl (ap (λ z. has z y) is_row ∙ index.none y b (slice_get_within task.actions y b g) g e)
      at y b g (p ∷ ps) e = inr (by (has s p) refl)
        where
          first : has b.pre p ≡ true
          first = ap (λ z. has z p) e ∙ or_left _ _ (eq-eqb p p refl)

          low : p < n
          low = below_at n b.pre p (action_at n task.actions b is.actions (get_In b task.actions y g)).pre first

          by : (k : Bool) → has s p ≡ k → IsMet join t q b
          by true i = inr (p, first, (0, h.values p low ∙ ap (λ z. cond z (Some 0) None) i, h.waits p low i))
          by false i = inl (λ r adds. subst (λ z. IsWithin 0 (value_in t r) z) (sym none) tt)
            where
              none : value_by join (value_in t) b ≡ None
              none = ap (after_cost b.cost) (ap (value_of_all join (value_in t) (Some 0)) e ∙ ap (λ z. value_of_all join (value_in t) (joined join (Some 0) z) ps) (h.values p low ∙ ap (λ z. cond z (Some 0) None) i) ∙ none_all join (value_in t) ps)

  pub settled : (t : List (Option ℕ)) (q : List Waiting) → q ≡ [] → IsSettling join task s t q [] → HasRounds join task s n t
  settled t q none h = record { len = h.len; values = λ p lt. same_values (value_in t p) (v p) (under n p lt) (h.above p) }
    where
      closed : (p : ℕ) (a : Action) → order.In a task.actions → has a.add p ≡ true → IsWithin 0 (value_in t p) (value_by join (value_in t) a)
      closed p a i adds = let x = In_get a task.actions i in elim (h.met x.0 a x.1) [
        | inl no_one ↦ absurd (both_ways false refl no_one)
        | inr m ↦ elim m [ inl each ↦ each p adds | inr w ↦ absurd (elim (subst (In _) none w.2.2) [ ]) ]
      ]

      under : (k p : ℕ) → p < n → IsWithin 0 (value_in t p) (relaxed_value join task s k p)
      under zero p lt = by (has s p) refl
        where
          by : (b : Bool) → has s p ≡ b → IsWithin 0 (value_in t p) (cond b (Some 0) None)
          by true i = h.start p lt i
          by false i = tt
      under (suc k) p lt = from (λ r low. under k r low) (least_cases join (relaxed_value join task s k) p (relaxed_value join task s k p) task.actions)
        where
          from : ((r : ℕ) → r < n → IsWithin 0 (value_in t r) (relaxed_value join task s k r)) →
              (least_by join (relaxed_value join task s k) p (relaxed_value join task s k p) task.actions ≡ relaxed_value join task s k p)
              ⊎ order.IsBy join (relaxed_value join task s k) p task.actions (least_by join (relaxed_value join task s k) p (relaxed_value join task s k p) task.actions) → IsWithin 0 (value_in t p) (relaxed_value join task s (suc k) p)
          from each (inl same) = subst (λ z. IsWithin 0 (value_in t p) z) (sym same) (each p lt)
          from each (inr by) = subst (λ z. IsWithin 0 (value_in t p) z) (sym by.3)
              (within_le 0 (value_in t p) (value_by join (value_in t) by.0) _ (closed p by.0 by.1 by.2)
              (action_le join (value_in t) (relaxed_value join task s k) by.0 (λ r i. each r (below_at n by.0.pre r (action_at n task.actions by.0 is.actions by.1).pre i))))

-- the start, fact by fact
pub start_true : (s : List ℕ) (p : ℕ) (t : List (Option ℕ)) (q q2 : List Waiting) (t2 : List (Option ℕ)) → has s p ≡ true → IsPermutation (record { value = 0; fact = p } ∷ q) q2 → t2 ≡ t ++ Some 0 ∷ [] → IsStart s p t q → IsStart s (p + 1) t2 q2
start_true s p t q q2 t2 holds more is h = subst (λ z. IsStart s (p + 1) z q2) (sym is) (record {
  len = length-append t (Some 0 ∷ []) ∙ ap (λ z. z + 1) h.len;
  values = λ r lt. elim (cases_eq r p) [
    | inl e ↦ subst (λ z. value_in (t ++ Some 0 ∷ []) z ≡ cond (has s z) (Some 0) None) (sym e) (at_last t p (Some 0) h.len ∙ sym (ap (λ b. cond b (Some 0) None) holds))
    | inr ne ↦ at_first t r (Some 0) (subst (λ z. r < z) (sym h.len) (omega (arith, ne))) ∙ h.values r (omega (arith, ne))
  ];
  waits = λ r lt i. elim (cases_eq r p) [
    | inl e ↦ subst (λ z. In (record { value = 0; fact = z }) q2) (sym e) (In-permutation _ (record { value = 0; fact = p } ∷ q) q2 more here)
    | inr ne ↦ In-permutation _ (record { value = 0; fact = p } ∷ q) q2 more (there (h.waits r (omega (arith, ne)) i))
  ];
})

pub start_false : (s : List ℕ) (p : ℕ) (t : List (Option ℕ)) (q : List Waiting) (t2 : List (Option ℕ)) → has s p ≡ false → t2 ≡ t ++ None ∷ [] → IsStart s p t q → IsStart s (p + 1) t2 q
start_false s p t q t2 fails is h = subst (λ z. IsStart s (p + 1) z q) (sym is) (record {
  len = length-append t (None ∷ []) ∙ ap (λ z. z + 1) h.len;
  values = λ r lt. elim (cases_eq r p) [
    | inl e ↦ subst (λ z. value_in (t ++ None ∷ []) z ≡ cond (has s z) (Some 0) None) (sym e) (at_last t p None h.len ∙ sym (ap (λ b. cond b (Some 0) None) fails))
    | inr ne ↦ at_first t r None (subst (λ z. r < z) (sym h.len) (omega (arith, ne))) ∙ h.values r (omega (arith, ne))
  ];
  waits = λ r lt i. elim (cases_eq r p) [
    | inl e ↦ absurd (both_ways (has s p) fails (ap (has s) (sym e) ∙ i))
    | inr ne ↦ h.waits r (omega (arith, ne)) i
  ];
})

pub rest_at : (xs : List ℕ) (k x : ℕ) → k < length xs → x ≡ get_or xs k x → drop k xs ≡ x ∷ drop (k + 1) xs
rest_at xs k x lt e = rw add-one (at xs k (slice_get_read xs _ k x refl lt e))
  where
    at : (xs : List ℕ) (k : ℕ) → slice_get xs k ≡ Some x → drop k xs ≡ x ∷ drop (suc k) xs
    at [] k g = absurd (none_some x g)
    at (y ∷ xs) zero g = ap (λ z. z ∷ xs) (some_is y x g)
    at (y ∷ xs) (suc k) g = at xs k g

-- an action by its row
pub by_row : (join : Join) (task : TaskView) (rows : List ActionRow) (x : ℕ) (row : ActionRow) (value : Option ℕ) (t : List (Option ℕ)) (q : List Waiting) (t2 : List (Option ℕ)) (q2 : List Waiting) →
    AreRows task (length task.actions) rows → slice_get rows x ≡ Some row → value ≡ after_cost row.cost (value_of_all join (value_in t) (Some 0) row.pre.items) → IsLoweredTo value row.add.items t q t2 q2 →
    IsRelaxed join (slice_get task.actions x) t q t2 q2
by_row join task rows x row value t q t2 q2 are g is lowered =
    let a = are.each x row g in
    subst (λ z. IsRelaxed join z t q t2 q2) (sym a.1)
    (subst (λ z. IsLoweredTo z a.0.add t q t2 q2)
    (is ∙ ap (λ z. after_cost z (value_of_all join (value_in t) (Some 0) row.pre.items)) a.2.cost ∙ ap (λ z. after_cost a.0.cost (value_of_all join (value_in t) (Some 0) z)) a.2.pre)
    (subst (λ z. IsLoweredTo value z t q t2 q2) a.2.add lowered))

pub past : {A : Type 0} (xs : List A) (x : ℕ) → slice_get xs x ≡ None → length xs ≤ x
past [] x e = omega arith
past (y ∷ xs) zero e = absurd (none_some y (sym e))
past (y ∷ xs) (suc x) e = let le = past xs x e in omega (arith, le)

pub none_past : {A : Type 0} (xs : List A) (x : ℕ) → length xs ≤ x → slice_get xs x ≡ None
none_past [] x le = refl
none_past (y ∷ xs) zero le = absurd (omega arith)
none_past (y ∷ xs) (suc x) le = none_past xs x (omega arith)

pub by_no_row : (join : Join) (task : TaskView) (rows : List ActionRow) (x : ℕ) (t : List (Option ℕ)) (q : List Waiting) → AreRows task (length task.actions) rows → slice_get rows x ≡ None →
    IsRelaxed join (slice_get task.actions x) t q t q
by_no_row join task rows x t q are g = subst (λ z. IsRelaxed join z t q t q) (sym (none_past task.actions x (subst (λ z. z ≤ x) are.len (past rows x g)))) (refl, refl)
