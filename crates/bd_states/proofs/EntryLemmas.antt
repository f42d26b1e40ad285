-- Entries in lists, and states that differ.
use Rattle.std.proofs.Common.{◌≡◌, ℕ, zero, suc, ◌<◌, ◌≤◌, ◌⊎◌, inl, inr, List, [], ◌∷◌, ◌++◌, length, get_or, Some, None, refl, sym, ap, ◌∙◌, subst, arith, slice_get}
use Rattle.std.specs.List.{Contains}
use Rattle.std.specs.List.Sorted.{IsPermutation}
use Rattle.std.proofs.lemmas.List.Sorted.{Contains-permutation}
use Rattle.bd_states.specs.Passed.{Differs, AllDiffer}
use Rattle.bd_states.specs.Entries.{In, here, there, states_of, HasState, IsKnown}
use Rattle.bd_states.specs.declared.entry.Entry.{Entry}

pub none_some : {A : Type 0} (a : A) → None ≡ Some a → ⊥
none_some a e = cc

pub some_is : {A : Type 0} (a b : A) → Some a ≡ Some b → a ≡ b
some_is a b e = cc

pub In-get_or : (e : Entry) (xs : List Entry) (k : ℕ) (d : Entry) → k < length xs → get_or xs k d ≡ e → In e xs
In-get_or e [] k d lt is = absurd (omega arith)
In-get_or e (x ∷ xs) zero d lt is = subst (λ z. In z (x ∷ xs)) is here
In-get_or e (x ∷ xs) (suc k) d lt is = there (In-get_or e xs k d (omega arith) is)

pub In-contains : (e : Entry) (xs : List Entry) → Contains xs e → In e xs
In-contains e xs c = In-get_or e xs c.0 e c.1 c.2

pub contains-In : (e : Entry) (xs : List Entry) → In e xs → Contains xs e
contains-In e [] i = elim i [ ]
contains-In e (d ∷ xs) here = (zero, omega arith, refl)
contains-In e (d ∷ xs) (there i) = let c = contains-In e xs i in (suc c.0, (let lt : c.0 < length xs = c.1 in omega arith), c.2)

-- what is in a list is in each list with the same elements
pub In-permutation : (e : Entry) (xs ys : List Entry) → IsPermutation xs ys → In e xs → In e ys
In-permutation e xs ys p i = In-contains e ys (Contains-permutation xs ys e p (contains-In e xs i))

pub In-get : (e : Entry) (xs : List Entry) (k : ℕ) → slice_get xs k ≡ Some e → In e xs
In-get e [] k g = absurd (none_some e g)
In-get e (x ∷ xs) zero g = subst (λ z. In z (x ∷ xs)) (some_is x e g) here
In-get e (x ∷ xs) (suc k) g = there (In-get e xs k g)

pub place_of : (e : Entry) (xs : List Entry) → In e xs → (k : ℕ) × (slice_get xs k ≡ Some e)
place_of e [] i = elim i [ ]
place_of e (d ∷ xs) here = (zero, refl)
place_of e (d ∷ xs) (there i) = let p = place_of e xs i in (suc p.0, p.1)

-- a list with one more at its end
pub In_more : (e d : Entry) (xs : List Entry) → In e xs → In e (xs ++ d ∷ [])
In_more e d [] i = elim i [ ]
In_more e d (x ∷ xs) here = here
In_more e d (x ∷ xs) (there i) = there (In_more e d xs i)

pub In_last : (d : Entry) (xs : List Entry) → In d (xs ++ d ∷ [])
In_last d [] = here
In_last d (x ∷ xs) = there (In_last d xs)

pub In_cases : (e d : Entry) (xs : List Entry) → In e (xs ++ d ∷ []) → In e xs ⊎ (e ≡ d)
In_cases e d [] here = inr refl
In_cases e d [] (there i) = elim i [ ]
In_cases e d (x ∷ xs) here = inl here
In_cases e d (x ∷ xs) (there i) = elim (In_cases e d xs i) [ inl old ↦ inl (there old) | inr new ↦ inr new ]

pub In_first : (e d : Entry) (xs : List Entry) → In e (d ∷ xs) → In e xs ⊎ (e ≡ d)
In_first e d xs here = inr refl
In_first e d xs (there i) = inl i

pub get_more : (e d : Entry) (xs : List Entry) (k : ℕ) → slice_get xs k ≡ Some e → slice_get (xs ++ d ∷ []) k ≡ Some e
get_more e d [] k g = absurd (none_some e g)
get_more e d (x ∷ xs) zero g = g
get_more e d (x ∷ xs) (suc k) g = get_more e d xs k g

pub get_cases : (e d : Entry) (xs : List Entry) (k : ℕ) → slice_get (xs ++ d ∷ []) k ≡ Some e → ((slice_get xs k ≡ Some e) × (k < length xs)) ⊎ ((e ≡ d) × (k ≡ length xs))
get_cases e d [] zero g = inr (sym (some_is d e g), refl)
get_cases e d [] (suc k) g = absurd (none_some e g)
get_cases e d (x ∷ xs) zero g = inl (g, omega arith)
get_cases e d (x ∷ xs) (suc k) g = elim (get_cases e d xs k g) [
  | inl old ↦ inl (old.0, (let lt : k < length xs = old.1 in omega arith))
  | inr new ↦ inr (new.0, ap suc new.1)
]

pub get_within : (e : Entry) (xs : List Entry) (k : ℕ) → slice_get xs k ≡ Some e → k < length xs
get_within e [] k g = absurd (none_some e g)
get_within e (x ∷ xs) zero g = omega arith
get_within e (x ∷ xs) (suc k) g = let lt = get_within e xs k g in omega arith

-- states that differ
pub differs_at : (s : List ℕ) (xs : List Entry) (e : Entry) → Differs s (states_of xs) → In e xs → s ≡ e.state → ⊥
differs_at s [] e d i same = elim i [ ]
differs_at s (x ∷ xs) e d here same = d.0 same
differs_at s (x ∷ xs) e d (there i) same = differs_at s xs e d.1 i same

pub differs_back : (s : List ℕ) (xs : List Entry) → Differs s (states_of xs) → (e : Entry) → In e xs → e.state ≡ s → ⊥
differs_back s xs d e i same = differs_at s xs e d i (sym same)

differs_more : (s : List ℕ) (xs : List Entry) (e : Entry) → Differs s (states_of xs) → (s ≡ e.state → ⊥) → Differs s (states_of (xs ++ e ∷ []))
differs_more s [] e d ne = (ne, tt)
differs_more s (x ∷ xs) e d ne = (d.0, differs_more s xs e d.1 ne)

pub differ_more : (xs : List Entry) (e : Entry) → AllDiffer (states_of xs) → Differs e.state (states_of xs) → AllDiffer (states_of (xs ++ e ∷ []))
differ_more [] e a d = (tt, tt)
differ_more (x ∷ xs) e a d = (differs_more x.state xs e a.0 (λ same. d.0 (sym same)), differ_more xs e a.1 d.1)

-- at two places of a list
pub apart_at : (xs : List Entry) (k j : ℕ) (p q : Entry) → AllDiffer (states_of xs) → slice_get xs k ≡ Some p → slice_get xs j ≡ Some q → k < j → p.state ≡ q.state → ⊥
apart_at [] k j p q a g h lt same = none_some p g
apart_at (x ∷ xs) zero zero p q a g h lt same = omega arith
apart_at (x ∷ xs) zero (suc j) p q a g h lt same = differs_at x.state xs q a.0 (In-get q xs j h) (ap (λ (e : Entry). e.state) (some_is x p g) ∙ same)
apart_at (x ∷ xs) (suc k) zero p q a g h lt same = omega arith
apart_at (x ∷ xs) (suc k) (suc j) p q a g h lt same = apart_at xs k j p q a.1 g h (omega arith) same

pub has_state_in : (s : List ℕ) (xs : List Entry) → HasState s xs → (e : Entry) × In e xs × (e.state ≡ s)
has_state_in s [] h = absurd h
has_state_in s (x ∷ xs) (inl same) = (x, here, same)
has_state_in s (x ∷ xs) (inr later) = let found = has_state_in s xs later in (found.0, there found.1, found.2)

pub known_by : (closed : List Entry) (k : ℕ) (e : Entry) (s : List ℕ) (cost : ℕ) → slice_get closed k ≡ Some e → e.state ≡ s → e.cost ≤ cost → IsKnown closed [] s cost
known_by closed k e s cost g state cheap = record { entry = e; is_in = inl (In-get e closed k g); state = state; cheap = cheap }

pub length_states : (xs : List Entry) → length (states_of xs) ≡ length xs
length_states [] = refl
length_states (x ∷ xs) = ap suc (length_states xs)
