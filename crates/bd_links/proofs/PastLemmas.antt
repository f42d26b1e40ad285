-- Givers that link a kid past the deleters, and walks over them.
use Rattle.std.proofs.Common.{◌≡◌, ℕ, ◌+◌, ◌<◌, ◌≤◌, Bool, true, false, not, ◌&&◌, ◌||◌, ◌==◌, eqb, List, [], ◌∷◌, length, get_or, drop, map, Option, Some, None, refl, sym, ap, ◌∙◌, inl, inr, add-one, drop-cons}
use Rattle.std.specs.List.{list_any, list_all, find, enumerate_from}
use Rattle.std.specs.Option.{option_or}
use Rattle.std.proofs.lemmas.Bool.{cases_Bool, both_ways, and_parts, and_from, or_right, eq-eqb}
use Rattle.std.proofs.lemmas.List.{drop_all}
use Rattle.bd_base.specs.Facts.{has}
use Rattle.bd_base.specs.Pairs.{is_before}
use Rattle.bd_links.specs.Child.{Child}
use Rattle.bd_links.specs.declared.parts.Fault.{Fault}
use Rattle.bd_links.specs.declared.parts.Fault.TheVariants.{Inside}
use Rattle.bd_links.specs.declared.parts.Touches.{Touches}
use Rattle.bd_links.specs.Effects.{Kid, Order, is_linked, is_safe, block_effects}
use Rattle.bd_links.specs.Faults.{first_of, inside, kid_fault, block_fault}
use Rattle.bd_links.specs.Rows.{Tells, is_later, is_aside, links_past, any_links, linked_by, safe_by}
use Rattle.bd_links.proofs.RowLemmas.{any_same, find_same, linked_same, safe_same, unlinked_in, unlinked_same, needs_same}
use Rattle.bd_links.proofs.Steps.{drop-at}

-- what a search for a failing test found
pub find_at : (t : ℕ → Bool) (xs : List ℕ) (m : ℕ) → Some m ≡ find (λ d. not (t d)) xs → (has xs m ≡ true) × (t m ≡ false)
find_at t [] m e = cc
find_at t (x ∷ xs) m e = elim (cases_Bool (t x)) [
  | inl h ↦ let rest = find_at t xs m (rw h at e) in (or_right (eqb x m) (has xs m) rest.0, rest.1)
  | inr h ↦ let same : Some m ≡ Some x = rw h at e in let one : x ≡ m = cc in (rw (eq-eqb x m one), ap t (sym one) ∙ h)
]

pub find_none : (t : ℕ → Bool) (xs : List ℕ) → None ≡ find (λ d. not (t d)) xs → list_all t xs ≡ true
find_none t [] e = refl
find_none t (x ∷ xs) e = elim (cases_Bool (t x)) [
  | inl h ↦ and_from (t x) (list_all t xs) h (find_none t xs (rw h at e))
  | inr h ↦ let other : None ≡ Some x = rw h at e in cc
]

all_missed : (t : ℕ → Bool) (xs : List ℕ) (m : ℕ) → has xs m ≡ true → t m ≡ false → list_all t xs ≡ false
all_missed t xs m here off = elim (cases_Bool (list_all t xs)) [
  | inl h ↦ absurd (both_ways (t m) off (Rattle.bd_links.proofs.Members.all_has t xs m h here))
  | inr h ↦ h
]

aside_where_later : (e f b c : Bool) → (f || c) ≡ true → (((e || f) || b) || c) ≡ true
aside_where_later e f b true l = or_right ((e || f) || b) true refl
aside_where_later true true b false l = refl
aside_where_later false true b false l = refl
aside_where_later e false b false l = absurd (both_ways false refl l)

later_fails : (e f b c : Bool) → (((e || f) || b) || c) ≡ false → (f || c) ≡ false
later_fails e f b true l = absurd (both_ways (((e || f) || b) || true) l (or_right ((e || f) || b) true refl))
later_fails true true b false l = l
later_fails false true b false l = l
later_fails e false b false l = refl

-- where m isn't later, and giver i is neither m nor after it, m isn't aside
aside_fails : (e f b c : Bool) → (f || c) ≡ false → (e || b) ≡ false → (((e || f) || b) || c) ≡ false
aside_fails true f b c u m = absurd (both_ways true m refl)
aside_fails false true b c u m = absurd (both_ways true u refl)
aside_fails false false true c u m = absurd (both_ways true m refl)
aside_fails false false false c u m = u

and_missed : (a b : Bool) → b ≡ false → (a && b) ≡ false
and_missed true b e = e
and_missed false b e = refl

module _ (order : Order) (deleters : List ℕ) (j : ℕ) where
  all_aside : (i : ℕ) (ds : List ℕ) → list_all (is_later order j) ds ≡ true → list_all (is_aside order i j) ds ≡ true
  all_aside i [] h = refl
  all_aside i (d ∷ ds) h =
      let parts = and_parts (is_later order j d) (list_all (is_later order j) ds) h in
      and_from (is_aside order i j d) (list_all (is_aside order i j) ds)
      (aside_where_later (d == i) (d == j) (is_before order d i) (is_before order j d) parts.0) (all_aside i ds parts.1)

  -- where each deleter is later, each giver before j links it
  pub links_where_later : list_all (is_later order j) deleters ≡ true → (givers : List ℕ) → list_any (λ i. is_before order i j) givers ≡ any_links order givers deleters j
  links_where_later h givers = any_same (λ i. is_before order i j) (links_past order deleters j) (λ i. sym (ap (λ z. is_before order i j && z) (all_aside i deleters h) ∙ and_true (is_before order i j))) givers
    where
      and_true : (a : Bool) → (a && true) ≡ a
      and_true true = refl
      and_true false = refl

  -- a deleter that is in the way of giver i
  pub link_barred : (i d : ℕ) → has deleters d ≡ true → is_aside order i j d ≡ false → links_past order deleters j i ≡ false
  link_barred i d here off = and_missed (is_before order i j) (list_all (is_aside order i j) deleters) (all_missed (is_aside order i j) deleters d here off)

  pub barred_later : (i d : ℕ) → is_aside order i j d ≡ false → is_later order j d ≡ false
  barred_later i d off = later_fails (d == i) (d == j) (is_before order d i) (is_before order j d) off

  pub link_needs : (m i : ℕ) → has deleters m ≡ true → is_later order j m ≡ false → (is_before order i j && (m == i || is_before order m i)) ≡ false → links_past order deleters j i ≡ false
  link_needs m i here unordered may = elim (cases_Bool (is_before order i j)) [
    | inl h ↦ link_barred i m here (aside_fails (m == i) (m == j) (is_before order m i) (is_before order j m) unordered (rw h at may))
    | inr h ↦ rw h
  ]

  module _ (givers : List ℕ) (k : ℕ) (lt : k < length givers) (left : any_links order (drop k givers) deleters j ≡ any_links order givers deleters j) where
    split : any_links order (drop k givers) deleters j ≡ (links_past order deleters j (get_or givers k 0) || any_links order (drop (k + 1) givers) deleters j)
    split =
        let e : drop k givers ≡ get_or givers k 0 ∷ drop (k + 1) givers = drop-cons givers k 0 lt ∙ rw add-one refl in
        ap (λ z. any_links order z deleters j) e

    pub link_found : links_past order deleters j (get_or givers k 0) ≡ true → true ≡ any_links order givers deleters j
    link_found e = sym (ap (λ b. b || any_links order (drop (k + 1) givers) deleters j) e) ∙ sym split ∙ left

    pub link_missed : links_past order deleters j (get_or givers k 0) ≡ false → any_links order (drop (k + 1) givers) deleters j ≡ any_links order givers deleters j
    link_missed e = sym (ap (λ b. b || any_links order (drop (k + 1) givers) deleters j) e) ∙ sym split ∙ left

-- ---- the walk over the kids

module _ (order : Order) (t : Touches) (kids : List Child) (tells : Tells t (enumerate_from 0 kids)) where
  abbrev all : List Kid
  all = enumerate_from 0 kids

  pub needs_done : (need : List ℕ) (j : ℕ) → length kids ≤ j → unlinked_in (linked_by order t) need (enumerate_from j (drop j kids)) ≡ unlinked_in (linked_by order t) [] (enumerate_from 0 kids) → need ≡ (block_effects order (enumerate_from 0 kids)).need
  needs_done need j le inv =
      sym (ap (λ z. unlinked_in (linked_by order t) need (enumerate_from j z)) (drop_all j kids le)) ∙ inv
      ∙ unlinked_same (linked_by order t) (is_linked order all) (linked_same order t all tells) [] all
      ∙ needs_same order all

  faults_from : ℕ → ℕ → Option Fault
  faults_from block j = first_of (map (kid_fault block order all) (enumerate_from j (drop j kids)))

  module _ (block j : ℕ) (kid : Child) (lt : j < length kids) (is : kid ≡ get_or kids j kid)
      (inv : first_of (map (kid_fault block order (enumerate_from 0 kids)) (enumerate_from j (drop j kids))) ≡ block_fault block order (enumerate_from 0 kids))
      (found : Option ℕ) (told : found ≡ find (λ p. not (safe_by order t j p)) kid.effects.need) where
    abbrev rest : Option Fault
    rest = first_of (map (kid_fault block order all) (enumerate_from (j + 1) (drop (j + 1) kids)))

    here : option_or (inside block kid.id found) rest ≡ block_fault block order all
    here =
        ap (λ z. option_or (inside block kid.id z) rest) (told ∙ find_same (λ p. not (safe_by order t j p)) (λ p. not (is_safe order all (j, kid) p)) (λ p. ap not (safe_same order t all tells (j, kid) p)) kid.effects.need)
        ∙ sym (ap (λ z. first_of (map (kid_fault block order all) (enumerate_from j z))) (drop-at kids j kid lt is)) ∙ inv

    pub fault_found : (p : ℕ) → found ≡ Some p → block_fault block order (enumerate_from 0 kids) ≡ Some (Inside block kid.id p)
    fault_found p e = sym (sym (ap (λ z. option_or (inside block kid.id z) rest) e) ∙ here)

    pub fault_missed : found ≡ None → first_of (map (kid_fault block order (enumerate_from 0 kids)) (enumerate_from (j + 1) (drop (j + 1) kids))) ≡ block_fault block order (enumerate_from 0 kids)
    fault_missed e = sym (ap (λ z. option_or (inside block kid.id z) rest) e) ∙ here
