-- Skips stay ways up, and tell the end of a chain.
use Rattle.std.proofs.Common.{◌≡◌, ℕ, suc, zero, Bool, true, false, List, [], ◌∷◌, ◌++◌, Option, Some, None, ◌⊎◌, inl, inr, refl, sym, ap, subst, ◌∙◌}
use Rattle.std.specs.Prelude.{slice_set, MatchOption}
use Rattle.pddl_domain.specs.Types.{parent_at, reaches}
use Rattle.pddl_domain.specs.Skips.{Above, above_self, above_step, Leads, AreSkips}
use Rattle.pddl_domain.proofs.ParentLemmas.{unchanged, pushed, is_not}

above_all : {ps : List (Option ℕ)} {k m r : ℕ} → Above ps k m → Above ps m r → Above ps k r
above_all {ps} {k} {m} {r} (above_self e) b = subst (λ (x : ℕ). Above ps x r) (sym e) b
above_all (above_step p e more) b = above_step p e (above_all more b)

pub leads_self : (ps : List (Option ℕ)) (k : ℕ) → Leads ps k k
leads_self ps k = λ n. n (above_self refl)

-- one step by a parent
pub leads_one : (ps : List (Option ℕ)) (k p : ℕ) → parent_at ps k ≡ Some p → Leads ps k p
leads_one ps k p e = λ n. n (above_step p e (above_self refl))

pub one_up : (ps : List (Option ℕ)) (k : ℕ) (r : Option ℕ) → r ≡ parent_at ps k → MatchOption r (parent_at ps k ≡ None) (λ u. Leads ps k u)
one_up ps k None e = sym e
one_up ps k (Some u) e = leads_one ps k u (sym e)

pub leads_all : (ps : List (Option ℕ)) (k m r : ℕ) → Leads ps k m → Leads ps m r → Leads ps k r
leads_all ps k m r h g = λ n. h (λ a. g (λ b. n (above_all a b)))

set_above : (i k : ℕ) {ps : List (Option ℕ)} {j u : ℕ} → parent_at ps i ≡ None → Above ps j u → Above (slice_set ps i (Some k)) j u
set_above i k root (above_self e) = above_self e
set_above i k {ps} {j} {u} root (above_step p e more) = above_step p (unchanged ps i j (Some k) other ∙ e) (set_above i k root more)
  where
    other : j ≡ i → ⊥
    other q = let same : parent_at ps j ≡ None = ap (λ (m : ℕ). parent_at ps m) q ∙ root in cc

push_above : {ps : List (Option ℕ)} {j u : ℕ} → Above ps j u → Above (ps ++ None ∷ []) j u
push_above (above_self e) = above_self e
push_above {ps} {j} {u} (above_step p e more) = above_step p (pushed ps j ∙ e) (push_above more)

-- one more type stands last
pub skips_pushed : (ps skips : List (Option ℕ)) → AreSkips ps skips → AreSkips (ps ++ None ∷ []) (skips ++ None ∷ [])
skips_pushed ps skips h = λ k u e. λ n. h k u (sym (pushed skips k) ∙ e) (λ a. n (push_above a))

-- a type without a parent gets one
pub skips_given : (ps skips : List (Option ℕ)) (i k : ℕ) → parent_at ps i ≡ None → AreSkips ps skips → AreSkips (slice_set ps i (Some k)) skips
skips_given ps skips i k root h = λ j u e. λ n. h j u e (λ a. n (set_above i k root a))

set_is : (xs : List (Option ℕ)) (i k j u : ℕ) → parent_at (slice_set xs i (Some k)) j ≡ Some u → ((j ≡ i) × (u ≡ k)) ⊎ (parent_at xs j ≡ Some u)
set_is [] i k j u e = inr e
set_is (x ∷ xs) zero k zero u e = inl (refl, cc)
set_is (x ∷ xs) zero k (suc j) u e = inr e
set_is (x ∷ xs) (suc i) k zero u e = inr e
set_is (x ∷ xs) (suc i) k (suc j) u e = by_case (set_is xs i k j u e)
  where
    by_case : ((j ≡ i) × (u ≡ k)) ⊎ (parent_at xs j ≡ Some u) → ((suc j ≡ suc i) × (u ≡ k)) ⊎ (parent_at xs j ≡ Some u)
    by_case (inl b) = inl (ap suc b.0, b.1)
    by_case (inr r) = inr r

-- a type gets a longer skip
pub skips_set : (ps skips : List (Option ℕ)) (i k : ℕ) → Leads ps i k → AreSkips ps skips → AreSkips ps (slice_set skips i (Some k))
skips_set ps skips i k a h = λ j u e. by_case j u (set_is skips i k j u e)
  where
    by_case : (j u : ℕ) → ((j ≡ i) × (u ≡ k)) ⊎ (parent_at skips j ≡ Some u) → Leads ps j u
    by_case j u (inl b) = subst (λ (m : ℕ). Leads ps m u) (sym b.0) (subst (λ (m : ℕ). Leads ps i m) (sym b.1) a)
    by_case j u (inr r) = h j u r

-- where the chain from k ends in another type than i, which has no parent, k isn't i and doesn't lie under it
not_under : (steps : List (Option ℕ)) {ps : List (Option ℕ)} {k top : ℕ} (i : ℕ) → Above ps k top → parent_at ps top ≡ None → parent_at ps i ≡ None → (top ≡ i → ⊥) → reaches steps ps i (Some k) ≡ false
not_under [] {ps} {k} {top} i (above_self e) last root other = is_not k i (λ q. other (sym e ∙ q))
not_under (s ∷ steps) {ps} {k} {top} i (above_self e) last root other =
    let none : parent_at ps k ≡ None = ap (λ (m : ℕ). parent_at ps m) e ∙ last in
    rw (is_not k i (λ q. other (sym e ∙ q)), none) refl
not_under [] {ps} {k} {top} i (above_step p e more) last root other = is_not k i (λ q. rooted k p e root q)
  where
    rooted : (k p : ℕ) → parent_at ps k ≡ Some p → parent_at ps i ≡ None → k ≡ i → ⊥
    rooted k p e root q = let same : parent_at ps k ≡ None = ap (λ (m : ℕ). parent_at ps m) q ∙ root in cc
not_under (s ∷ steps) {ps} {k} {top} i (above_step p e more) last root other =
    rw (is_not k i (λ q. rooted k p e root q), e) (not_under steps i more last root other)
  where
    rooted : (k p : ℕ) → parent_at ps k ≡ Some p → parent_at ps i ≡ None → k ≡ i → ⊥
    rooted k p e root q = let same : parent_at ps k ≡ None = ap (λ (m : ℕ). parent_at ps m) q ∙ root in cc

pub ends_apart : (steps ps : List (Option ℕ)) (k top i : ℕ) → Leads ps k top → parent_at ps top ≡ None → parent_at ps i ≡ None → (top ≡ i → ⊥) → reaches steps ps i (Some k) ≡ false
ends_apart steps ps k top i h last root other = by_test (reaches steps ps i (Some k)) refl
  where
    apart : reaches steps ps i (Some k) ≡ true → Above ps k top → ⊥
    apart e a = let f : reaches steps ps i (Some k) ≡ false = not_under steps i a last root other in let t : true ≡ false = sym e ∙ f in cc

    by_test : (t : Bool) → reaches steps ps i (Some k) ≡ t → t ≡ false
    by_test true e = absurd (h (apart e))
    by_test false e = refl
