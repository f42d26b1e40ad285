-- The links of a block by the positions of the kids that give or delete a fact.
use Rattle.std.proofs.Common.{◌≡◌, ℕ, Bool, true, false, cond, not, ◌&&◌, ◌||◌, ◌==◌, eqb, List, [], ◌∷◌, filter, Some, refl, sym, ap, ◌∙◌}
use Rattle.std.specs.List.{list_any, list_all, find}
use Rattle.std.proofs.lemmas.List.Folds.{list_any-append, list_all-append}
use Rattle.bd_base.specs.Facts.{IsRising, has, plus, minus}
use Rattle.bd_base.specs.Pairs.{is_before}
use Rattle.bd_base.proofs.FactLemmas.{has-plus, has-minus, rising_same, rising-plus, rising-minus}
use Rattle.bd_links.specs.declared.parts.Effects.{Effects}
use Rattle.bd_links.specs.declared.parts.Touches.{Touches}
use Rattle.bd_links.specs.Effects.{Kid, Order, is_linked, is_needed, is_given, is_deleted, is_safe, with_facts, all_facts, block_effects}
use Rattle.bd_links.specs.Rows.{Tells, places_of, holders, is_later, is_aside, links_past, any_links, gives_past, any_gives, linked_by, safe_by, given_by}
use Rattle.bd_links.proofs.Members.{has-filter}
use Rattle.bd_links.proofs.SetLemmas.{rising-filter, rising-all_facts}

-- ---- tests that agree

module _ {X : Type 0} (t u : X → Bool) (same : (x : X) → t x ≡ u x) where
  pub any_same : (xs : List X) → list_any t xs ≡ list_any u xs
  any_same [] = refl
  any_same (x ∷ xs) = ap (λ b. b || list_any t xs) (same x) ∙ ap (λ b. u x || b) (any_same xs)

  pub all_same : (xs : List X) → list_all t xs ≡ list_all u xs
  all_same [] = refl
  all_same (x ∷ xs) = ap (λ b. b && list_all t xs) (same x) ∙ ap (λ b. u x && b) (all_same xs)

  pub filter_same : (xs : List X) → filter t xs ≡ filter u xs
  filter_same [] = refl
  filter_same (x ∷ xs) = ap (λ b. cond b (x ∷ filter t xs) (filter t xs)) (same x) ∙ ap (λ z. cond (u x) (x ∷ z) z) (filter_same xs)

  pub find_same : (xs : List X) → find t xs ≡ find u xs
  find_same [] = refl
  find_same (x ∷ xs) = ap (λ b. cond b (Some x) (find t xs)) (same x) ∙ ap (λ z. cond (u x) (Some x) z) (find_same xs)

-- ---- tests of the kids that have a fact

or_false : (a : Bool) → (a || false) ≡ a
or_false true = refl
or_false false = refl

or_turned : (a b : Bool) → (a || (b || false)) ≡ (b || a)
or_turned true true = refl
or_turned true false = refl
or_turned false true = refl
or_turned false false = refl

and_true : (a : Bool) → (a && true) ≡ a
and_true true = refl
and_true false = refl

and_turned : (a b : Bool) → (a && (b && true)) ≡ (b && a)
and_turned true true = refl
and_turned true false = refl
and_turned false true = refl
and_turned false false = refl

module _ (f : Effects → List ℕ) (g : ℕ → Bool) (p : ℕ) where
  pub any-holders : (kids : List Kid) → list_any g (holders f kids p) ≡ list_any (λ k. has (f k.1.effects) p && g k.0) kids
  any-holders [] = refl
  any-holders (k ∷ kids) =
      list_any-append g (holders f kids p) (cond (has (f k.1.effects) p) (k.0 ∷ []) [])
      ∙ ap (λ z. z || list_any g (cond (has (f k.1.effects) p) (k.0 ∷ []) [])) (any-holders kids)
      ∙ one (has (f k.1.effects) p) (list_any (λ k. has (f k.1.effects) p && g k.0) kids)
    where
      one : (b r : Bool) → (r || list_any g (cond b (k.0 ∷ []) [])) ≡ ((b && g k.0) || r)
      one true r = or_turned r (g k.0)
      one false r = or_false r

  pub all-holders : (kids : List Kid) → list_all g (holders f kids p) ≡ list_all (λ k. not (has (f k.1.effects) p) || g k.0) kids
  all-holders [] = refl
  all-holders (k ∷ kids) =
      list_all-append g (holders f kids p) (cond (has (f k.1.effects) p) (k.0 ∷ []) [])
      ∙ ap (λ z. z && list_all g (cond (has (f k.1.effects) p) (k.0 ∷ []) [])) (all-holders kids)
      ∙ one (has (f k.1.effects) p) (list_all (λ k. not (has (f k.1.effects) p) || g k.0) kids)
    where
      one : (b r : Bool) → (r && list_all g (cond b (k.0 ∷ []) [])) ≡ ((not b || g k.0) && r)
      one true r = and_turned r (g k.0)
      one false r = and_true r

-- ---- the links of a fact

aside_turned : (e f h b c : Bool) → (not h || (((e || f) || b) || c)) ≡ ((((e || f) || not h) || b) || c)
aside_turned e f true b c = ap (λ z. (z || b) || c) (sym (or_false (e || f)))
aside_turned true f false b c = refl
aside_turned false true false b c = refl
aside_turned false false false b c = refl

later_turned : (e h b : Bool) → (not h || (e || b)) ≡ ((e || not h) || b)
later_turned e true b = ap (λ z. z || b) (sym (or_false e))
later_turned true false b = refl
later_turned false false b = refl

links_turned : (h b a : Bool) → (h && (b && a)) ≡ ((b && h) && a)
links_turned true b a = ap (λ z. z && a) (sym (and_true b))
links_turned false true a = refl
links_turned false false a = refl

module _ (order : Order) (kids : List Kid) (p : ℕ) where
  past_is : (j i : ℕ) → links_past order (holders (λ e. e.del) kids p) j i ≡ (is_before order i j && list_all (λ d. d.0 == i || d.0 == j || not (has d.1.effects.del p) || is_before order d.0 i || is_before order j d.0) kids)
  past_is j i = ap (λ z. is_before order i j && z)
      (all-holders (λ e. e.del) (is_aside order i j) p kids
      ∙ all_same _ _ (λ (d : Kid). aside_turned (eqb d.0 i) (eqb d.0 j) (has d.1.effects.del p) (is_before order d.0 i) (is_before order j d.0)) kids)

  pub links_is : (j : ℕ) → any_links order (holders (λ e. e.add) kids p) (holders (λ e. e.del) kids p) j ≡ is_linked order kids j p
  links_is j =
      any-holders (λ e. e.add) (links_past order (holders (λ e. e.del) kids p) j) p kids
      ∙ any_same _ _ (λ (i : Kid). ap (λ z. has i.1.effects.add p && z) (past_is j i.0) ∙ links_turned (has i.1.effects.add p) (is_before order i.0 j) _) kids

  pub later_is : (j : ℕ) → list_all (is_later order j) (holders (λ e. e.del) kids p) ≡ list_all (λ d. d.0 == j || not (has d.1.effects.del p) || is_before order j d.0) kids
  later_is j =
      all-holders (λ e. e.del) (is_later order j) p kids
      ∙ all_same _ _ (λ (d : Kid). later_turned (eqb d.0 j) (has d.1.effects.del p) (is_before order j d.0)) kids

  pub gives_is : any_gives order (holders (λ e. e.add) kids p) (holders (λ e. e.del) kids p) ≡ is_given order kids p
  gives_is =
      any-holders (λ e. e.add) (gives_past order (holders (λ e. e.del) kids p)) p kids
      ∙ any_same _ _ (λ (i : Kid). ap (λ z. has i.1.effects.add p && z)
      (all-holders (λ e. e.del) (λ d. d == i.0 || is_before order d i.0) p kids
      ∙ all_same _ _ (λ (d : Kid). later_turned (eqb d.0 i.0) (has d.1.effects.del p) (is_before order d.0 i.0)) kids)) kids

module _ (order : Order) (t : Touches) (kids : List Kid) (tells : Tells t kids) where
  pub linked_same : (j p : ℕ) → linked_by order t j p ≡ is_linked order kids j p
  linked_same j p =
      ap (λ z. any_links order z (places_of t.deletes p) j) (tells.gives p)
      ∙ ap (λ z. any_links order (holders (λ e. e.add) kids p) z j) (tells.deletes p)
      ∙ links_is order kids p j

  pub safe_same : (j : Kid) (p : ℕ) → safe_by order t j.0 p ≡ is_safe order kids j p
  safe_same j p =
      ap (λ z. z || list_all (is_later order j.0) (places_of t.deletes p)) (linked_same j.0 p)
      ∙ ap (λ z. is_linked order kids j.0 p || z) (ap (λ z. list_all (is_later order j.0) z) (tells.deletes p) ∙ later_is order kids p j.0)

  pub given_same : (p : ℕ) → given_by order t p ≡ is_given order kids p
  given_same p =
      ap (λ z. any_gives order z (places_of t.deletes p)) (tells.gives p)
      ∙ ap (λ z. any_gives order (holders (λ e. e.add) kids p) z) (tells.deletes p)
      ∙ gives_is order kids p

-- ---- the facts that kids need and aren't linked for

abbrev pub unlinked_in : (ℕ → ℕ → Bool) → List ℕ → List Kid → List ℕ
unlinked_in t s [] = s
unlinked_in t s (k ∷ kids) = unlinked_in t (plus s (filter (λ p. not (t k.0 p)) k.1.effects.need)) kids

has-unlinked_in : (t : ℕ → ℕ → Bool) (s : List ℕ) (kids : List Kid) (q : ℕ) → has (unlinked_in t s kids) q ≡ (list_any (λ k. has k.1.effects.need q && not (t k.0 q)) kids || has s q)
has-unlinked_in t s [] q = refl
has-unlinked_in t s (k ∷ kids) q =
    let news = filter (λ p. not (t k.0 p)) k.1.effects.need in
    let rest = list_any (λ k. has k.1.effects.need q && not (t k.0 q)) kids in
    has-unlinked_in t (plus s news) kids q
    ∙ ap (λ z. rest || z) (has-plus s news q ∙ ap (λ z. z || has s q) (has-filter (λ p. not (t k.0 p)) k.1.effects.need q))
    ∙ turned rest (not (t k.0 q)) (has k.1.effects.need q) (has s q)
  where
    turned : (r n h s : Bool) → (r || ((n && h) || s)) ≡ (((h && n) || r) || s)
    turned true true true s = refl
    turned true true false s = refl
    turned true false true s = refl
    turned true false false s = refl
    turned false true true s = refl
    turned false true false s = refl
    turned false false true s = refl
    turned false false false s = refl

rising-unlinked_in : (t : ℕ → ℕ → Bool) (s : List ℕ) (kids : List Kid) → IsRising s → IsRising (unlinked_in t s kids)
rising-unlinked_in t s [] r = r
rising-unlinked_in t s (k ∷ kids) r = rising-unlinked_in t (plus s (filter (λ p. not (t k.0 p)) k.1.effects.need)) kids (rising-plus s (filter (λ p. not (t k.0 p)) k.1.effects.need) r)

has-with_facts : (f : Effects → List ℕ) (s : List ℕ) (kids : List Kid) (q : ℕ) → has (with_facts f s kids) q ≡ (list_any (λ k. has (f k.1.effects) q) kids || has s q)
has-with_facts f s [] q = refl
has-with_facts f s (k ∷ kids) q =
    let rest = list_any (λ k. has (f k.1.effects) q) kids in
    has-with_facts f (plus s (f k.1.effects)) kids q
    ∙ ap (λ z. rest || z) (has-plus s (f k.1.effects) q)
    ∙ turned rest (has (f k.1.effects) q) (has s q)
  where
    turned : (r h s : Bool) → (r || (h || s)) ≡ ((h || r) || s)
    turned true true s = refl
    turned true false s = refl
    turned false true s = refl
    turned false false s = refl

has-facts : (f : Effects → List ℕ) (kids : List Kid) (q : ℕ) → has (all_facts f kids) q ≡ list_any (λ k. has (f k.1.effects) q) kids
has-facts f kids q = has-with_facts f [] kids q ∙ or_false _

-- a test that asks the first kid for more
any_weaker : (t u : Kid → Bool) (kids : List Kid) → (list_any (λ k. t k && u k) kids && list_any t kids) ≡ list_any (λ k. t k && u k) kids
any_weaker t u [] = refl
any_weaker t u (k ∷ kids) = here (t k) (u k) (list_any (λ k. t k && u k) kids) (list_any t kids) (any_weaker t u kids)
  where
    here : (a b x y : Bool) → (x && y) ≡ x → (((a && b) || x) && (a || y)) ≡ ((a && b) || x)
    here true b x y e = and_true (b || x)
    here false b x y e = e

and_swapped : (a b : Bool) → (a && b) ≡ (b && a)
and_swapped true true = refl
and_swapped true false = refl
and_swapped false true = refl
and_swapped false false = refl

module _ (order : Order) (kids : List Kid) where
  given_has : (q : ℕ) → has (filter (is_given order kids) (all_facts (λ e. e.add) kids)) q ≡ is_given order kids q
  given_has q =
      has-filter (is_given order kids) (all_facts (λ e. e.add) kids) q
      ∙ ap (λ z. is_given order kids q && z) (has-facts (λ e. e.add) kids q)
      ∙ any_weaker (λ i. has i.1.effects.add q) (λ i. list_all (λ d. d.0 == i.0 || not (has d.1.effects.del q) || is_before order d.0 i.0) kids) kids

  pub needs_same : unlinked_in (is_linked order kids) [] kids ≡ (block_effects order kids).need
  needs_same = rising_same (unlinked_in (is_linked order kids) [] kids) (filter (is_needed order kids) (all_facts (λ e. e.need) kids))
      (rising-unlinked_in (is_linked order kids) [] kids tt)
      (rising-filter (is_needed order kids) (all_facts (λ e. e.need) kids) (rising-all_facts (λ e. e.need) kids))
      (λ q. has-unlinked_in (is_linked order kids) [] kids q ∙ or_false (is_needed order kids q)
      ∙ sym (has-filter (is_needed order kids) (all_facts (λ e. e.need) kids) q
      ∙ ap (λ z. is_needed order kids q && z) (has-facts (λ e. e.need) kids q)
      ∙ any_weaker (λ j. has j.1.effects.need q) (λ j. not (is_linked order kids j.0 q)) kids))

  pub dels_same : minus (all_facts (λ e. e.del) kids) (block_effects order kids).add ≡ (block_effects order kids).del
  dels_same = rising_same (minus (all_facts (λ e. e.del) kids) (block_effects order kids).add) (filter (is_deleted order kids) (all_facts (λ e. e.del) kids))
      (rising-minus (all_facts (λ e. e.del) kids) (block_effects order kids).add (rising-all_facts (λ e. e.del) kids))
      (rising-filter (is_deleted order kids) (all_facts (λ e. e.del) kids) (rising-all_facts (λ e. e.del) kids))
      (λ q. has-minus (all_facts (λ e. e.del) kids) (block_effects order kids).add q
      ∙ ap (λ z. not z && has (all_facts (λ e. e.del) kids) q) (given_has q)
      ∙ ap (λ z. not (is_given order kids q) && z) (has-facts (λ e. e.del) kids q)
      ∙ sym (has-filter (is_deleted order kids) (all_facts (λ e. e.del) kids) q
      ∙ ap (λ z. is_deleted order kids q && z) (has-facts (λ e. e.del) kids q)
      ∙ twice (list_any (λ d. has d.1.effects.del q) kids) (not (is_given order kids q))))
    where
      twice : (a n : Bool) → ((a && n) && a) ≡ (n && a)
      twice true n = refl
      twice false n = sym (and_swapped n false)

-- the set of needs, where the tests of a walk agree with the links
pub unlinked_same : (t u : ℕ → ℕ → Bool) → ((j p : ℕ) → t j p ≡ u j p) → (s : List ℕ) (kids : List Kid) → unlinked_in t s kids ≡ unlinked_in u s kids
unlinked_same t u same s [] = refl
unlinked_same t u same s (k ∷ kids) =
    unlinked_same t u same (plus s (filter (λ p. not (t k.0 p)) k.1.effects.need)) kids
    ∙ ap (λ z. unlinked_in u (plus s z) kids) (filter_same (λ p. not (t k.0 p)) (λ p. not (u k.0 p)) (λ p. ap not (same k.0 p)) k.1.effects.need)
