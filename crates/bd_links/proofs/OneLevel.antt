-- One block: kids that run one after another, each after those before it.
use Rattle.std.proofs.Common.{◌≡◌, ℕ, Bool, true, false, not, ◌&&◌, ◌||◌, eqb, List, [], ◌∷◌, ◌++◌, refl, sym, ap, ◌∙◌, subst, ◌⊎◌, inl, inr}
use Rattle.std.specs.List.{list_all}
use Rattle.std.proofs.lemmas.Bool.{or_cases, and_parts, and_from, both_ways, cases_Bool, false_from_ne_true, ne_eqb}
use Rattle.bd_base.specs.Facts.{has}
use Rattle.bd_links.specs.declared.parts.Effects.{Effects}
use Rattle.bd_base.specs.Pairs.{is_before}
use Rattle.bd_links.specs.Effects.{Kid, Order, links, is_linked, is_needed, gives, is_given, is_deleted, is_safe, are_safe, block_effects, all_facts}
use Rattle.bd_links.proofs.Members.{In, here, there, any_some, some_any, all_at, in_middle, in_with, in_without, in_none, has-filter, has-all_facts, all_has}

-- what a run from s to t makes and keeps
pub record Ran (s t : List ℕ) (e : Effects) : Type 0 where
  pub adds : (p : ℕ) → has e.add p ≡ true → has t p ≡ true
  pub keeps : (p : ℕ) → has s p ≡ true → has e.del p ≡ false → has t p ≡ true

-- no two have one position
abbrev pub Distinct : List Kid → Type 0
Distinct [] = Unit {0}
Distinct (k ∷ ks) = ((x : Kid) → In x ks → k.0 ≡ x.0 → ⊥) × Distinct ks

pub distinct_without : (b a : List Kid) (k : Kid) → Distinct (b ++ k ∷ a) → Distinct (b ++ a)
distinct_without [] a k d = d.1
distinct_without (x ∷ b) a k d = (λ y i. d.0 y (in_with b a k y i), distinct_without b a k d.1)

pub distinct_from : (b a : List Kid) (k : Kid) → Distinct (b ++ k ∷ a) → (x : Kid) → In x (b ++ a) → k.0 ≡ x.0 → ⊥
distinct_from [] a k d x i e = d.0 x i e
distinct_from (y ∷ b) a k d x here e = d.0 k (in_middle b a k) (sym e)
distinct_from (y ∷ b) a k d x (there i) e = distinct_from b a k d.1 x i e

-- a kid that deletes p, and isn't one of two, is before or after
five : (a b c d e : Bool) → (a || b || c || d || e) ≡ true → a ≡ false → b ≡ false → c ≡ false → (d ≡ true) ⊎ (e ≡ true)
five true b c d e h p q r = absurd (both_ways true p refl)
five false true c d e h p q r = absurd (both_ways true q refl)
five false false true d e h p q r = absurd (both_ways true r refl)
five false false false d e h p q r = or_cases d e h

three : (a c d : Bool) → (a || c || d) ≡ true → a ≡ false → c ≡ false → d ≡ true
three true c d h p r = absurd (both_ways true p refl)
three false true d h p r = absurd (both_ways true r refl)
three false false d h p r = h

-- between two kids: which are done, which remain, and what the state holds
pub record Between (order : Order) (kids done rest : List Kid) (start s : List ℕ) : Type 0 where
  pub cover : (x : Kid) → In x kids → In x done ⊎ In x rest
  pub done_in : (x : Kid) → In x done → In x kids
  pub rest_in : (x : Kid) → In x rest → In x kids
  pub apart : (d r : Kid) → In d done → In r rest → d.0 ≡ r.0 → ⊥
  pub distinct : Distinct rest
  pub ordered : (d r : Kid) → In d done → In r rest → is_before order r.0 d.0 ≡ false
  pub made : (p : ℕ) (i : Kid) → In i done → has i.1.effects.add p ≡ true →
      ((d : Kid) → In d done → (d.0 ≡ i.0 → ⊥) → has d.1.effects.del p ≡ true → is_before order d.0 i.0 ≡ true) → has s p ≡ true
  pub kept : (p : ℕ) → has start p ≡ true → ((d : Kid) → In d done → has d.1.effects.del p ≡ false) → has s p ≡ true

pub between_start : (order : Order) (kids : List Kid) (s : List ℕ) → Distinct kids → Between order kids [] kids s s
between_start order kids s distinct = record {
  cover = λ x i. inr i;
  done_in = λ x i. absurd (in_none x i);
  rest_in = λ x i. i;
  apart = λ d r i j e. in_none d i;
  distinct = distinct;
  ordered = λ d r i j. absurd (in_none d i);
  made = λ p i j a h. absurd (in_none i j);
  kept = λ p h d. h;
}

module _ (order : Order) (kids done b a : List Kid) (k : Kid) (start s : List ℕ) (h : Between order kids done (b ++ k ∷ a) start s)
    (first : (r : Kid) → In r (b ++ k ∷ a) → is_before order r.0 k.0 ≡ false) where
  k_in : In k (b ++ k ∷ a)
  k_in = in_middle b a k

  -- what the next kid needs is there
  pub need_holds : are_safe order kids ≡ true → ((p : ℕ) → is_needed order kids p ≡ true → has start p ≡ true) → (p : ℕ) → has k.1.effects.need p ≡ true → has s p ≡ true
  need_holds ok needed p n = elim (cases_Bool (is_linked order kids k.0 p)) [
    | inl linked ↦
        let i = any_some (links order kids k.0 p) kids linked in
        let both = and_parts (is_before order i.0.0 k.0 && has i.0.1.effects.add p) _ i.2 in
        let two = and_parts (is_before order i.0.0 k.0) (has i.0.1.effects.add p) both.0 in
        let i_done : In i.0 done = elim (h.cover i.0 i.1) [ inl x ↦ x | inr y ↦ absurd (both_ways _ (first i.0 y) two.0) ] in
        h.made p i.0 i_done two.1 (λ d j other del.
        let test = all_at _ d kids both.1 (h.done_in d j) in
        let sides = five (eqb d.0 i.0.0) (eqb d.0 k.0) (not (has d.1.effects.del p)) (is_before order d.0 i.0.0) (is_before order k.0 d.0) test
        (ne_eqb d.0 i.0.0 other) (ne_eqb d.0 k.0 (h.apart d k j k_in)) (ap not del) in
        let answer : is_before order d.0 i.0.0 ≡ true = elim sides [ inl x ↦ x | inr y ↦ absurd (both_ways _ (h.ordered d k j k_in) y) ] in
        answer)
    | inr unlinked ↦
        let k_kid = h.rest_in k k_in in
        let safe = all_has (is_safe order kids k) k.1.effects.need p (all_at (λ j. list_all (is_safe order kids j) j.1.effects.need) k kids ok k_kid) n in
        let after : list_all (λ d. eqb d.0 k.0 || not (has d.1.effects.del p) || is_before order k.0 d.0) kids ≡ true =
        elim (or_cases (is_linked order kids k.0 p) _ safe) [ inl x ↦ absurd (both_ways _ unlinked x) | inr y ↦ y ] in
        let wanted = some_any (λ j. has j.1.effects.need p && not (is_linked order kids j.0 p)) k kids k_kid (and_from _ _ n (ap not unlinked)) in
        h.kept p (needed p wanted) (λ d j. false_from_ne_true (has d.1.effects.del p) (λ del.
        let test = all_at (λ d. eqb d.0 k.0 || not (has d.1.effects.del p) || is_before order k.0 d.0) d kids after (h.done_in d j) in
        let later = three (eqb d.0 k.0) (not (has d.1.effects.del p)) (is_before order k.0 d.0) test (ne_eqb d.0 k.0 (h.apart d k j k_in)) (ap not del) in
        both_ways _ (h.ordered d k j k_in) later))
  ]

  -- after it has run, the next may
  pub between_next : (t : List ℕ) → Ran s t k.1.effects → Between order kids (k ∷ done) (b ++ a) start t
  between_next t ran = record {
    cover = λ x i. elim (h.cover x i) [
      | inl d ↦ inl (there d)
      | inr r ↦ elim (in_without b a k x r) [ inl e ↦ inl (subst (λ z. In z (k ∷ done)) (sym e) here) | inr j ↦ inr j ]
    ];
    done_in = λ x i. is_done x i;
    rest_in = λ x i. h.rest_in x (in_with b a k x i);
    apart = λ d r i j. are_apart d r i j;
    distinct = distinct_without b a k h.distinct;
    ordered = λ d r i j. are_ordered d r i j;
    made = λ p i j add later. is_made p i j add later;
    kept = λ p old no_del. ran.keeps p (h.kept p old (λ d i. no_del d (there i))) (no_del k here);
  }
    where
      is_done : (x : Kid) → In x (k ∷ done) → In x kids
      is_done x here = h.rest_in k k_in
      is_done x (there i) = h.done_in x i

      are_apart : (d r : Kid) → In d (k ∷ done) → In r (b ++ a) → d.0 ≡ r.0 → ⊥
      are_apart d r here j e = distinct_from b a k h.distinct r j e
      are_apart d r (there i) j e = h.apart d r i (in_with b a k r j) e

      are_ordered : (d r : Kid) → In d (k ∷ done) → In r (b ++ a) → is_before order r.0 d.0 ≡ false
      are_ordered d r here j = first r (in_with b a k r j)
      are_ordered d r (there i) j = h.ordered d r i (in_with b a k r j)

      is_made : (p : ℕ) (i : Kid) → In i (k ∷ done) → has i.1.effects.add p ≡ true →
          ((d : Kid) → In d (k ∷ done) → (d.0 ≡ i.0 → ⊥) → has d.1.effects.del p ≡ true → is_before order d.0 i.0 ≡ true) → has t p ≡ true
      is_made p i here add later = ran.adds p add
      is_made p i (there j) add later =
          let was = h.made p i j add (λ d m. later d (there m)) in
          let alone : has k.1.effects.del p ≡ false = false_from_ne_true (has k.1.effects.del p) (λ del.
          both_ways _ (h.ordered i k j k_in) (later k here (λ e. h.apart i k j k_in (sym e)) del)) in
          ran.keeps p was alone

-- at the end the block has made its facts, and kept what it doesn't delete
pub between_end : (order : Order) (kids done : List Kid) (start s : List ℕ) → Between order kids done [] start s → Ran start s (block_effects order kids)
between_end order kids done start s h = record {
  adds = λ p add. given p (and_parts (is_given order kids p) _ (sym (has-filter (is_given order kids) (all_facts (λ e. e.add) kids) p) ∙ add)).0;
  keeps = λ p old no_del. elim (cases_Bool (is_given order kids p)) [
    | inl yes_given ↦ given p yes_given
    | inr not_given ↦ h.kept p old (λ d i. false_from_ne_true (has d.1.effects.del p) (λ del.
        let deleted : is_deleted order kids p ≡ true = and_from _ _ (some_any (λ d. has d.1.effects.del p) d kids (h.done_in d i) del) (ap not not_given) in
        let facts = has-all_facts (λ e. e.del) d kids p (h.done_in d i) del in
        both_ways _ no_del (has-filter (is_deleted order kids) (all_facts (λ e. e.del) kids) p ∙ and_from _ _ deleted facts)))
  ];
}
  where
    given : (p : ℕ) → is_given order kids p ≡ true → has s p ≡ true
    given p g =
        let i = any_some (gives order kids p) kids g in
        let both = and_parts (has i.0.1.effects.add p) _ i.2 in
        let i_done : In i.0 done = elim (h.cover i.0 i.1) [ inl x ↦ x | inr y ↦ absurd (in_none _ y) ] in
        h.made p i.0 i_done both.0 (λ d j other del.
        let test = all_at _ d kids both.1 (h.done_in d j) in
        three (eqb d.0 i.0.0) (not (has d.1.effects.del p)) (is_before order d.0 i.0.0) test (ne_eqb d.0 i.0.0 other) (ap not del))

-- what the block needs as a list, by the test
pub needed_from_need : (order : Order) (kids : List Kid) (start : List ℕ) → ((p : ℕ) → has (block_effects order kids).need p ≡ true → has start p ≡ true) →
    (p : ℕ) → is_needed order kids p ≡ true → has start p ≡ true
needed_from_need order kids start h p wanted =
    let j = any_some (λ j. has j.1.effects.need p && not (is_linked order kids j.0 p)) kids wanted in
    let facts = has-all_facts (λ e. e.need) j.0 kids p j.1 (and_parts (has j.0.1.effects.need p) _ j.2).0 in
    h p (has-filter (is_needed order kids) (all_facts (λ e. e.need) kids) p ∙ and_from _ _ wanted facts)
