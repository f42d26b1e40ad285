-- The chain of parents from each type ends.
use Rattle.std.proofs.Common.{◌≡◌, ℕ, suc, zero, ◌+◌, ◌<◌, ◌≤◌, ◌==◌, ◌||◌, Bool, true, false, List, [], ◌∷◌, ◌++◌, Option, Some, None, length, refl, sym, ap, subst, ◌∙◌, arith}
use Rattle.std.specs.Prelude.{slice_set, eqb}
use Rattle.std.specs.List.{AllByRecursion, IsDistinct, list_any}
use Rattle.std.proofs.lemmas.Bool.Decides.{nat_tests}
use Rattle.std.proofs.lemmas.Map.Steps.{length-le_from_distinct_below}
use Rattle.pddl_domain.specs.Types.{parent_at, reaches}
use Rattle.pddl_domain.proofs.ParentLemmas.{unchanged, pushed, is_not, differs}

-- from a type on, by its parents
pub data Ends : List (Option ℕ) → Option ℕ → Type 0 where
  ends_none : {ps : List (Option ℕ)} {o : Option ℕ} → o ≡ None → Ends ps o
  ends_step : {ps : List (Option ℕ)} {o : Option ℕ} (k : ℕ) → o ≡ Some k → Ends ps (parent_at ps k) → Ends ps o

abbrev pub height : {ps : List (Option ℕ)} {o : Option ℕ} → Ends ps o → ℕ
height (ends_none e) = 0
height (ends_step k e more) = height more + 1

same_height : {ps : List (Option ℕ)} {o p : Option ℕ} (c : Ends ps o) (d : Ends ps p) → o ≡ p → height c ≡ height d
same_height (ends_none e) (ends_none f) q = refl
same_height (ends_none e) (ends_step k f more) q = cc
same_height (ends_step k e more) (ends_none f) q = cc
same_height {ps} (ends_step k e more) (ends_step j f rest) q = let is : k ≡ j = cc in ap (λ (n : ℕ). n + 1) (same_height more rest (ap (λ (m : ℕ). parent_at ps m) is))

-- the types of the chain from k on, whose rest is given, but for its last
abbrev inner : {ps : List (Option ℕ)} {o : Option ℕ} → ℕ → Ends ps o → List ℕ
inner k (ends_none e) = []
inner k (ends_step j e more) = k ∷ inner j more

inner_length : {ps : List (Option ℕ)} {o : Option ℕ} (k : ℕ) (d : Ends ps o) → length (inner k d) ≡ height d
inner_length k (ends_none e) = refl
inner_length k (ends_step j e more) = let h = inner_length j more in omega (arith, h)

in_range : (ps : List (Option ℕ)) (k j : ℕ) → parent_at ps k ≡ Some j → k < length ps
in_range [] k j e = cc
in_range (x ∷ ps) zero j e = omega arith
in_range (x ∷ ps) (suc k) j e = let h = in_range ps k j e in omega (arith, h)

inner_below : {ps : List (Option ℕ)} {o : Option ℕ} (k : ℕ) (d : Ends ps o) → parent_at ps k ≡ o → (q : ℕ) → list_any (λ y. q == y) (inner k d) ≡ true → q < length ps
inner_below k (ends_none e) p q h = cc
inner_below {ps} {o} k (ends_step j f rest) p q h = by_test (q == k) refl (inner_below j rest refl q) h
  where
    by_test : (t : Bool) → (q == k) ≡ t → (list_any (λ y. q == y) (inner j rest) ≡ true → q < length ps) → (t || list_any (λ y. q == y) (inner j rest)) ≡ true → q < length ps
    by_test true e more g = let is : q ≡ k = grind (arith, nat_tests) in let r = in_range ps k j (p ∙ f) in omega (arith, is, r)
    by_test false e more g = more g

-- a chain is by one longer than its rest
next_height : {ps : List (Option ℕ)} {o v : Option ℕ} (k : ℕ) (c : Ends ps o) → o ≡ Some k → (d : Ends ps v) → v ≡ parent_at ps k → height c ≡ height d + 1
next_height k (ends_none e) q d w = cc
next_height {ps} k (ends_step i e more) q d w = let is : i ≡ k = cc in ap (λ (n : ℕ). n + 1) (same_height more d (ap (λ (x : ℕ). parent_at ps x) is ∙ sym w))

inner_apart : {ps : List (Option ℕ)} {o : Option ℕ} (k : ℕ) (c : Ends ps o) → o ≡ Some k → (j : ℕ) (v : Option ℕ) (d : Ends ps v) → v ≡ parent_at ps j → height d + 1 < height c → AllByRecursion (λ y. (k == y) ≡ false) (inner j d)
inner_apart k c q j v (ends_none e) w l = tt
inner_apart {ps} {o} k c q j v (ends_step m f rest) w l = (is_not k j differ, inner_apart k c q m (parent_at ps m) rest refl (omega (arith, l)))
  where
    differ : k ≡ j → ⊥
    differ e = let same = next_height k c q (ends_step m f rest) (w ∙ ap (λ (x : ℕ). parent_at ps x) (sym e)) in omega (arith, same, l)

inner_distinct : {ps : List (Option ℕ)} {o : Option ℕ} (k : ℕ) (c : Ends ps o) → o ≡ Some k → (v : Option ℕ) (d : Ends ps v) → v ≡ parent_at ps k → IsDistinct eqb (inner k d)
unfolding IsDistinct
inner_distinct k c q v (ends_none e) w = tt
inner_distinct {ps} k c q v (ends_step j f rest) w =
    let h = next_height k c q (ends_step j f rest) w in
    (inner_apart k c q j (parent_at ps j) rest refl (omega (arith, h)), inner_distinct j (ends_step j f rest) f (parent_at ps j) rest refl)

-- no chain is longer than there are types
short : {ps : List (Option ℕ)} {o : Option ℕ} (k : ℕ) (c : Ends ps o) → o ≡ Some k → (v : Option ℕ) (d : Ends ps v) → v ≡ parent_at ps k → height d ≤ length ps
short {ps} k c q v d w =
    let l = length-le_from_distinct_below (inner k d) (length ps) (inner_distinct k c q v d w) (inner_below k d (sym w)) in
    let e = inner_length k d in
    omega (arith, l, e)

pub short_from : {ps : List (Option ℕ)} {o : Option ℕ} (d : Ends ps o) → height d ≤ length ps + 1
short_from (ends_none e) = omega arith
short_from {ps} (ends_step k e more) = let l = short k (ends_step k e more) e (parent_at ps k) more refl in omega (arith, l)

-- one type gets a parent

set_is : (ps : List (Option ℕ)) (i k m : ℕ) → parent_at ps i ≡ None → parent_at (slice_set ps i (Some k)) i ≡ Some m → m ≡ k
set_is [] i k m r e = cc
set_is (x ∷ ps) zero k m r e = cc
set_is (x ∷ ps) (suc i) k m r e = set_is ps i k m r e

none_either : (a b : Bool) → (a || b) ≡ false → (a ≡ false) × (b ≡ false)
none_either true b e = cc
none_either false b e = (refl, e)

no_more : {ps : List (Option ℕ)} {o : Option ℕ} (d : Ends ps o) → height d ≡ 0 → o ≡ None
no_more (ends_none e) h = e
no_more (ends_step k e more) h = absurd (omega (arith, h))

-- a chain that doesn't come to i stays
kept : (steps ps : List (Option ℕ)) (i k : ℕ) {o : Option ℕ} (d : Ends ps o) → reaches steps ps i o ≡ false → height d ≤ length steps + 1 → Ends (slice_set ps i (Some k)) o
kept steps ps i k (ends_none e) r h = ends_none e
kept [] ps i k (ends_step j e more) r h =
    let n : (j == i) ≡ false = subst (λ (o : Option ℕ). reaches [] ps i o ≡ false) e r in
    let none : parent_at ps j ≡ None = no_more more (omega (arith, h)) in
    ends_step j e (ends_none (unchanged ps i j (Some k) (differs j i n) ∙ none))
kept (s ∷ steps) ps i k (ends_step j e more) r h =
    let t : (j == i || reaches steps ps i (parent_at ps j)) ≡ false = subst (λ (o : Option ℕ). reaches (s ∷ steps) ps i o ≡ false) e r in
    let both = none_either (j == i) (reaches steps ps i (parent_at ps j)) t in
    ends_step j e (subst (Ends (slice_set ps i (Some k))) (sym (unchanged ps i j (Some k) (differs j i both.0))) (kept steps ps i k more both.1 (omega (arith, h))))

all_kept : (ps : List (Option ℕ)) (i k : ℕ) → parent_at ps i ≡ None → Ends (slice_set ps i (Some k)) (Some k) → (o : Option ℕ) → Ends ps o → Ends (slice_set ps i (Some k)) o
all_kept ps i k root up o (ends_none e) = ends_none e
all_kept ps i k root up o (ends_step j e more) = by_test (j == i) refl (all_kept ps i k root up (parent_at ps j) more)
  where
    now : List (Option ℕ)
    now = slice_set ps i (Some k)

    by_parent : (v : Option ℕ) → parent_at now i ≡ v → Ends now v
    by_parent None q = ends_none refl
    by_parent (Some m) q = subst (λ (x : ℕ). Ends now (Some x)) (sym (set_is ps i k m root q)) up

    at_root : j ≡ i → Ends now (parent_at now j)
    at_root q = subst (λ (m : ℕ). Ends now (parent_at now m)) (sym q) (by_parent (parent_at now i) refl)

    by_test : (t : Bool) → (j == i) ≡ t → Ends now (parent_at ps j) → Ends now o
    by_test true q rest = let is : j ≡ i = grind (arith, nat_tests) in ends_step j e (at_root is)
    by_test false q rest = ends_step j e (subst (Ends now) (sym (unchanged ps i j (Some k) (differs j i q))) rest)

-- a type that isn't reached from k may get the parent k
pub set_ends : (ps : List (Option ℕ)) (i k : ℕ) → parent_at ps i ≡ None → reaches ps ps i (Some k) ≡ false → ((j : ℕ) → Ends ps (Some j)) → (j : ℕ) → Ends (slice_set ps i (Some k)) (Some j)
set_ends ps i k root r h j =
    let d : Ends ps (Some k) = h k in
    all_kept ps i k root (kept ps ps i k d r (short_from d)) (Some j) (h j)

-- one more type

pub push_ends : (ps : List (Option ℕ)) {o : Option ℕ} → Ends ps o → Ends (ps ++ None ∷ []) o
push_ends ps (ends_none e) = ends_none e
push_ends ps (ends_step k e more) = ends_step k e (subst (Ends (ps ++ None ∷ [])) (sym (pushed ps k)) (push_ends ps more))

pub one_ends : (j : ℕ) → Ends (None ∷ []) (Some j)
one_ends zero = ends_step zero refl (ends_none refl)
one_ends (suc j) = ends_step (suc j) refl (ends_none refl)
