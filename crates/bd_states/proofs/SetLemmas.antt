-- Facts of sets, and the entry of the least total.
use Rattle.std.proofs.Common.{◌≡◌, ℕ, ◌<◌, ◌≤◌, Bool, true, false, eqb, List, [], ◌∷◌, refl, sym, subst, inl, inr, arith, Option, Some, None, IfSome}
use Rattle.std.proofs.lemmas.Bool.{both_ways, and_parts, and_from, or_cases, or_left, or_right, eq-eqb, eqb-true}
use Rattle.std.specs.BinaryHeap.{IsHeap, IsUpperBound}
use Rattle.std.specs.Ordering.{nat_cmp, is_lt, ordering_then, MatchOrdering}
use Rattle.std.specs.declared.cmp.Ordering.{Ordering}
use Rattle.std.specs.declared.cmp.Ordering.TheVariants.{Less, Equal, Greater}
use Rattle.std.proofs.lemmas.Cmp.{ranked}
use Rattle.bd_states.specs.Order.{entry_cmp}
use Rattle.bd_base.specs.Facts.{IsRising, has, is_subset}
use Rattle.bd_base.proofs.FactLemmas.{rising_same}
use Rattle.bd_states.specs.Entries.{In, here, there}
use Rattle.bd_states.specs.declared.entry.Entry.{Entry}

pub subset_has : (xs s : List ℕ) → is_subset xs s ≡ true → (q : ℕ) → has xs q ≡ true → has s q ≡ true
subset_has [] s h q i = absurd (both_ways false refl i)
subset_has (x ∷ xs) s h q i =
    let parts = and_parts (has s x) (is_subset xs s) h in
    elim (or_cases (eqb x q) (has xs q) i) [ inl same ↦ subst (λ z. has s z ≡ true) (eqb-true x q same) parts.0 | inr later ↦ subset_has xs s parts.1 q later ]

pub subset_from : (xs s : List ℕ) → ((q : ℕ) → has xs q ≡ true → has s q ≡ true) → is_subset xs s ≡ true
subset_from [] s h = refl
subset_from (x ∷ xs) s h = and_from (has s x) (is_subset xs s) (h x (or_left _ _ (eq-eqb x x refl))) (subset_from xs s (λ q i. h q (or_right _ _ i)))

pub both_same : (a b : Bool) → (a ≡ true → b ≡ true) → (b ≡ true → a ≡ true) → a ≡ b
both_same true b to back = sym (to refl)
both_same false true to back = back refl
both_same false false to back = refl

-- what is first in the order of entries has the least total
pub total_le : (e x : Entry) → is_lt (entry_cmp e x) ≡ false → e.total ≤ x.total
total_le e x h = by (nat_cmp x.total e.total) (ranked x.total e.total (nat_cmp x.total e.total) refl) h
  where
    by : (o : Ordering) → MatchOrdering o (x.total < e.total) (x.total ≡ e.total) (e.total < x.total) → is_lt (ordering_then o (nat_cmp e.cost x.cost)) ≡ false → e.total ≤ x.total
    by Less r h = absurd (both_ways true h refl)
    by Equal r h = omega arith
    by Greater r h = omega arith

pub least_of : (r : Option Entry) (old new : List Entry) → IfSome r (λ e. IsHeap entry_cmp old → IsUpperBound entry_cmp e new) → IsHeap entry_cmp old → IfSome r (λ e. (x : Entry) → In x new → e.total ≤ x.total)
least_of None old new above heap = tt
least_of (Some e) old new above heap = each new (above heap)
  where
    each : (xs : List Entry) → IsUpperBound entry_cmp e xs → (x : Entry) → In x xs → e.total ≤ x.total
    each [] u x i = elim i [ ]
    each (d ∷ xs) u x here = total_le e x u.0
    each (d ∷ xs) u x (there i) = each xs u.1 x i

pub same_by_subsets : (a b : List ℕ) → IsRising a → IsRising b → is_subset a b ≡ true → is_subset b a ≡ true → a ≡ b
same_by_subsets a b rising rising2 in_b in_a = rising_same a b rising rising2 (λ q. both_same (has a q) (has b q) (λ i. subset_has a b in_b q i) (λ i. subset_has b a in_a q i))
