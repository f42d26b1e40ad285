-- A pair that is taken out of rows in place.
use Rattle.std.proofs.Common.{◌≡◌, ℕ, zero, suc, ◌+◌, ◌-◌, ◌*◌, ◌/◌, ◌%◌, ◌^◌, ◌<◌, ◌≤◌, max, not, ◌&&◌, ◌==◌, List, [], ◌∷◌, ◌++◌, length, get_or, take, drop, set, map, refl, sym, ap, ◌∙◌, subst, inl, inr, ◌⊎◌, arith}
use Rattle.std.specs.List.{slice_range}
use Rattle.std.proofs.lemmas.Bool.{cases_eq, cases_lt}
use Rattle.std.proofs.lemmas.List.{take-set-le, drop-set-lt, drop-set-add}
use Rattle.std.proofs.lemmas.List.Elements.{filter-append}
use Rattle.std.proofs.Math.Seq.{take-set-lt}
use Rattle.bd_base.specs.Bits.{row_of}
use Rattle.bd_base.specs.Facts.{remove_fact}
use Rattle.bd_base.specs.Pairs.{without_pair}
use Rattle.bd_base.specs.Rows.{words_at, pairs_with, pairs_of, AreSpans, AreInTurn, IsApart}
use Rattle.bd_base.specs.declared.spans.Span.{Span}
use Rattle.bd_base.proofs.RowLemmas.{without_same, without_other}

-- a word that is set outside a range, and within one
pub range_apart : (words : List ℕ) (at v s e : ℕ) → (e ≤ at) ⊎ (at < s) → slice_range (set words at v) s e ≡ slice_range words s e
range_apart words at v s e (inl le) = by_start (cases_lt at s)
  where
    by_start : (at < s) ⊎ (s ≤ at) → slice_range (set words at v) s e ≡ slice_range words s e
    by_start (inl lt) = ap (take (e - s)) (drop-set-lt s words at v lt)
    by_start (inr ge) =
        let split : at ≡ s + (at - s) = omega arith in
        ap (λ z. take (e - s) (drop s (set words z v))) split
        ∙ ap (take (e - s)) (drop-set-add s words (at - s) v)
        ∙ take-set-le (e - s) (drop s words) (at - s) v (omega arith)
range_apart words at v s e (inr lt) = ap (take (e - s)) (drop-set-lt s words at v lt)

pub range_within : (words : List ℕ) (k v s e : ℕ) → k < e - s → slice_range (set words (s + k) v) s e ≡ set (slice_range words s e) k v
range_within words k v s e lt = ap (take (e - s)) (drop-set-add s words k v) ∙ take-set-lt (e - s) (drop s words) k v lt

-- rows that lie in turn have no word in common
pub turn_after : (from : ℕ) (spans : List Span) (k : ℕ) (d : Span) → AreInTurn from spans → k < length spans → (get_or spans k d).start < (get_or spans k d).end → from ≤ (get_or spans k d).start
turn_after from [] k d t lt some = absurd (omega arith)
turn_after from (s ∷ spans) zero d t lt some = t.0 some
turn_after from (s ∷ spans) (suc k) d t lt some = let z = turn_after (max from s.end) spans k d t.1 (omega arith) some in omega (arith, z)

pub turn_apart : (from : ℕ) (spans : List Span) (k m : ℕ) (d : Span) → AreInTurn from spans → k < length spans → m < length spans → (k ≡ m → ⊥) → (get_or spans k d).start < (get_or spans k d).end → IsApart (get_or spans k d) (get_or spans m d)
turn_apart from [] k m d t lt lt_m ne some = absurd (omega arith)
turn_apart from (s ∷ spans) zero zero d t lt lt_m ne some = absurd (ne refl)
turn_apart from (s ∷ spans) zero (suc m) d t lt lt_m ne some = λ other. inr (let z = turn_after (max from s.end) spans m d t.1 (omega arith) other in omega (arith, z))
turn_apart from (s ∷ spans) (suc k) zero d t lt lt_m ne some = λ other. inl (let z = turn_after (max from s.end) spans k d t.1 (omega arith) some in omega (arith, z))
turn_apart from (s ∷ spans) (suc k) (suc m) d t lt lt_m ne some = turn_apart (max from s.end) spans k m d t.1 (omega arith) (omega arith) (λ e. ne (ap suc e)) some

pub turn_push : (n from : ℕ) (spans : List Span) (span : Span) → AreSpans n spans → (span.start < span.end → (n ≤ span.start) × (from ≤ span.start)) → AreInTurn from spans → AreInTurn from (spans ++ span ∷ [])
turn_push n from [] span fits behind t = (λ some. (behind some).1, tt)
turn_push n from (s ∷ spans) span fits behind t =
    (t.0, turn_push n (max from s.end) spans span fits.1 (λ some. let b = behind some in let low : s.end ≤ n = fits.0.1 in (b.0, omega (arith, low, b.0, b.1))) t.1)

pub turn_pass : (from : ℕ) (spans : List Span) → AreInTurn from spans → AreInTurn from (spans ++ record { start = 0; end = 0 } ∷ [])
turn_pass from [] t = (λ some. absurd (omega (arith, some)), tt)
turn_pass from (s ∷ spans) t = (t.0, turn_pass (max from s.end) spans t.1)

-- rows of which one lost a position
module _ (words changed : List ℕ) (i j : ℕ) where
  pub pairs_removed : (spans : List Span) (first : ℕ) → ((m : ℕ) (d : Span) → m < length spans → (first + m ≡ i → ⊥) → words_at changed (get_or spans m d) ≡ words_at words (get_or spans m d)) →
      ((m : ℕ) (d : Span) → m < length spans → first + m ≡ i → row_of 0 (words_at changed (get_or spans m d)) ≡ remove_fact j (row_of 0 (words_at words (get_or spans m d)))) →
      pairs_of changed first spans ≡ without_pair i j (pairs_of words first spans)
  pairs_removed [] first same lost = refl
  pairs_removed (s ∷ spans) first same lost =
      let rest = pairs_removed spans (first + 1)
      (λ m d lt ne. same (suc m) d (omega arith) (λ e. ne (let z : first + suc m ≡ first + 1 + m = omega arith in sym z ∙ e)))
      (λ m d lt e. lost (suc m) d (omega arith) (let z : first + suc m ≡ first + 1 + m = omega arith in z ∙ e)) in
      let row = row_of 0 (words_at words s) in
      let zero_is : first + 0 ≡ first = omega arith in
      let t : ℕ × ℕ → Rattle.std.proofs.Common.Bool = λ p. not (p.0 == i && p.1 == j) in
      let here : pairs_with first (row_of 0 (words_at changed s)) ≡ without_pair i j (pairs_with first row) = elim (cases_eq first i) [
        | inl e ↦ ap (pairs_with first) (lost zero s (omega arith) (zero_is ∙ e)) ∙ sym (without_same first j row) ∙ ap (λ z. without_pair z j (pairs_with first row)) e
        | inr ne ↦ ap (λ (z : List ℕ). pairs_with first (row_of 0 z)) (same zero s (omega arith) (λ e. ne (sym zero_is ∙ e))) ∙ sym (without_other first i j row ne)
      ] in
      ap (λ (z : List (ℕ × ℕ)). z ++ pairs_of changed (first + 1) spans) here
      ∙ ap (λ (z : List (ℕ × ℕ)). without_pair i j (pairs_with first row) ++ z) rest
      ∙ sym (filter-append t (pairs_with first row) (pairs_of words (first + 1) spans))

-- an element that is there, whatever stands for one that isn't
pub there_same : {X : Type 0} (xs : List X) (k : ℕ) (d e : X) → k < length xs → get_or xs k d ≡ get_or xs k e
there_same [] k d e lt = absurd (omega arith)
there_same (x ∷ xs) zero d e lt = refl
there_same (x ∷ xs) (suc k) d e lt = there_same xs k d e (omega arith)

-- rows that don't have the pair's row
pub pairs_without_row : (words : List ℕ) (i j : ℕ) (spans : List Span) (first : ℕ) → ((m : ℕ) → m < length spans → first + m ≡ i → ⊥) → pairs_of words first spans ≡ without_pair i j (pairs_of words first spans)
pairs_without_row words i j spans first none = pairs_removed words words i j spans first (λ m d lt ne. refl) (λ m d lt e. absurd (none m lt e))
