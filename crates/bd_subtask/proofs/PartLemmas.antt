-- The effects of some kids of a block, by the rows of its facts.
use Rattle.std.proofs.Common.{◌≡◌, ℕ, Bool, true, false, cond, not, ◌&&◌, ◌||◌, eqb, List, [], ◌∷◌, filter, map, refl, sym, ap, ◌∙◌, inl, inr, ◌⊎◌}
use Rattle.std.specs.List.{list_any, list_all}
use Rattle.std.proofs.lemmas.Bool.{and_parts, or_left, or_right}
use Rattle.bd_base.specs.Facts.{has, plus}
use Rattle.bd_base.specs.Pairs.{is_before}
use Rattle.bd_base.proofs.FactLemmas.{has-plus}
use Rattle.bd_links.specs.Effects.{Kid, Order, links, is_linked, is_needed, gives, is_given, is_deleted}
use Rattle.bd_links.specs.Rows.{holders}
use Rattle.bd_links.proofs.Members.{In, here, there, any_some, some_any}
use Rattle.bd_links.proofs.RowLemmas.{any_same, all_same, any-holders, all-holders}
use Rattle.bd_subtask.specs.Level.{with_touched, row_of, is_marked, part_of, yields, outlasts, part_gives, part_deletes, steps_aside, links_part, lacks, part_needs}

-- ---- tests of the elements that pass another test

module _ {X : Type 0} (m t : X → Bool) where
  pub any_part : (xs : List X) → list_any t (filter m xs) ≡ list_any (λ x. m x && t x) xs
  any_part [] = refl
  any_part (x ∷ xs) = one (m x) (any_part xs)
    where
      one : (b : Bool) → list_any t (filter m xs) ≡ list_any (λ x. m x && t x) xs → list_any t (cond b (x ∷ filter m xs) (filter m xs)) ≡ ((b && t x) || list_any (λ x. m x && t x) xs)
      one true e = ap (λ z. t x || z) e
      one false e = e

  pub all_part : (xs : List X) → list_all t (filter m xs) ≡ list_all (λ x. not (m x) || t x) xs
  all_part [] = refl
  all_part (x ∷ xs) = one (m x) (all_part xs)
    where
      one : (b : Bool) → list_all t (filter m xs) ≡ list_all (λ x. not (m x) || t x) xs → list_all t (cond b (x ∷ filter m xs) (filter m xs)) ≡ ((not b || t x) && list_all (λ x. not (m x) || t x) xs)
      one true e = ap (λ z. t x && z) e
      one false e = e

-- a test of what is picked
pub any_picked : {X : Type 0} (m : ℕ × X → Bool) (g : ℕ → Bool) (xs : List (ℕ × X)) → list_any g (map (λ (k : ℕ × X). k.0) (filter m xs)) ≡ list_any (λ (k : ℕ × X). m k && g k.0) xs
any_picked m g [] = refl
any_picked {X} m g (x ∷ xs) = one (m x) (any_picked m g xs)
  where
    one : (b : Bool) → list_any g (map (λ (k : ℕ × X). k.0) (filter m xs)) ≡ list_any (λ (k : ℕ × X). m k && g k.0) xs → list_any g (map (λ (k : ℕ × X). k.0) (cond b (x ∷ filter m xs) (filter m xs))) ≡ ((b && g x.0) || list_any (λ (k : ℕ × X). m k && g k.0) xs)
    one true e = ap (λ z. g x.0 || z) e
    one false e = e

-- ---- turns of tests

yields_turned : (h m e b : Bool) → (not h || (not m || (e || b))) ≡ (not m || ((e || not h) || b))
yields_turned true m true b = refl
yields_turned true m false b = refl
yields_turned false true true b = refl
yields_turned false true false b = refl
yields_turned false false e b = refl

aside_turned : (h m e f b c : Bool) → (not h || (not m || (((e || f) || b) || c))) ≡ (not m || ((((e || f) || not h) || b) || c))
aside_turned true m true f b c = refl
aside_turned true m false true b c = refl
aside_turned true m false false b c = refl
aside_turned false true true f b c = refl
aside_turned false true false true b c = refl
aside_turned false true false false b c = refl
aside_turned false false e f b c = refl

gives_turned : (h m a : Bool) → (h && (m && a)) ≡ (m && (h && a))
gives_turned true true a = refl
gives_turned true false a = refl
gives_turned false true a = refl
gives_turned false false a = refl

links_turned : (h m b a : Bool) → (h && (m && (b && a))) ≡ (m && ((b && h) && a))
links_turned true true true a = refl
links_turned true true false a = refl
links_turned true false b a = refl
links_turned false true true a = refl
links_turned false true false a = refl
links_turned false false b a = refl

and_swapped : (h m : Bool) → (h && m) ≡ (m && h)
and_swapped true true = refl
and_swapped true false = refl
and_swapped false true = refl
and_swapped false false = refl

pub or_false : (b : Bool) → (b || false) ≡ b
or_false true = refl
or_false false = refl

-- ---- one row

module _ (order : Order) (marks : List Bool) (kids : List Kid) (p : ℕ) where
  abbrev marked : Kid → Bool
  marked k = is_marked marks k.0

  abbrev part : List Kid
  part = part_of marks kids

  abbrev givers : List ℕ
  givers = holders (λ e. e.add) kids p

  abbrev deleters : List ℕ
  deleters = holders (λ e. e.del) kids p

  yields_is : (i : ℕ) → list_all (yields order marks i) deleters ≡ list_all (λ (d : Kid). eqb d.0 i || not (has d.1.effects.del p) || is_before order d.0 i) part
  yields_is i =
      all-holders (λ e. e.del) (yields order marks i) p kids
      ∙ all_same _ _ (λ (d : Kid). yields_turned (has d.1.effects.del p) (marked d) (eqb d.0 i) (is_before order d.0 i)) kids
      ∙ sym (all_part marked (λ (d : Kid). eqb d.0 i || not (has d.1.effects.del p) || is_before order d.0 i) kids)

  pub gives_is : part_gives order marks (row_of kids p) ≡ is_given order part p
  gives_is =
      any-holders (λ e. e.add) (outlasts order marks deleters) p kids
      ∙ any_same _ _ (λ (i : Kid). ap (λ z. has i.1.effects.add p && (marked i && z)) (yields_is i.0) ∙ gives_turned (has i.1.effects.add p) (marked i) _) kids
      ∙ sym (any_part marked (gives order part p) kids)

  aside_is : (i j : ℕ) → list_all (steps_aside order marks i j) deleters ≡ list_all (λ (d : Kid). eqb d.0 i || eqb d.0 j || not (has d.1.effects.del p) || is_before order d.0 i || is_before order j d.0) part
  aside_is i j =
      all-holders (λ e. e.del) (steps_aside order marks i j) p kids
      ∙ all_same _ _ (λ (d : Kid). aside_turned (has d.1.effects.del p) (marked d) (eqb d.0 i) (eqb d.0 j) (is_before order d.0 i) (is_before order j d.0)) kids
      ∙ sym (all_part marked (λ (d : Kid). eqb d.0 i || eqb d.0 j || not (has d.1.effects.del p) || is_before order d.0 i || is_before order j d.0) kids)

  links_is : (j : ℕ) → list_any (links_part order marks deleters j) givers ≡ is_linked order part j p
  links_is j =
      any-holders (λ e. e.add) (links_part order marks deleters j) p kids
      ∙ any_same _ _ (λ (i : Kid). ap (λ z. has i.1.effects.add p && (marked i && (is_before order i.0 j && z))) (aside_is i.0 j) ∙ links_turned (has i.1.effects.add p) (marked i) (is_before order i.0 j) _) kids
      ∙ sym (any_part marked (links order part j p) kids)

  pub needs_is : part_needs order marks (row_of kids p) ≡ is_needed order part p
  needs_is =
      any_picked (λ (k : Kid). has k.1.effects.need p) (lacks order marks (row_of kids p)) kids
      ∙ any_same _ _ (λ (j : Kid). ap (λ z. has j.1.effects.need p && (marked j && not z)) (links_is j.0) ∙ gives_turned (has j.1.effects.need p) (marked j) _) kids
      ∙ sym (any_part marked (λ (j : Kid). has j.1.effects.need p && not (is_linked order part j.0 p)) kids)

  pub deletes_is : part_deletes order marks (row_of kids p) ≡ is_deleted order part p
  deletes_is =
      ap (λ z. z && not (part_gives order marks (row_of kids p)))
      (any-holders (λ e. e.del) (is_marked marks) p kids
      ∙ any_same _ _ (λ (d : Kid). and_swapped (has d.1.effects.del p) (marked d)) kids
      ∙ sym (any_part marked (λ (d : Kid). has d.1.effects.del p) kids))
      ∙ ap (λ z. list_any (λ (d : Kid). has d.1.effects.del p) part && not z) gives_is

-- ---- the facts that kids touch

touched_keeps : (s : List ℕ) (kids : List Kid) (q : ℕ) → has s q ≡ true → has (with_touched s kids) q ≡ true
touched_keeps s [] q e = e
touched_keeps s (k ∷ kids) q e =
    let n = k.1.effects.need in
    let a = k.1.effects.add in
    let d = k.1.effects.del in
    touched_keeps (plus (plus (plus s n) a) d) kids q
    (has-plus (plus (plus s n) a) d q ∙ or_right (has d q) _ (has-plus (plus s n) a q ∙ or_right (has a q) _ (has-plus s n q ∙ or_right (has n q) (has s q) e)))

module _ (q : ℕ) where
  abbrev pub Touches : Kid → Type 0
  Touches k = (has k.1.effects.need q ≡ true) ⊎ ((has k.1.effects.add q ≡ true) ⊎ (has k.1.effects.del q ≡ true))

  touched_now : (s : List ℕ) (k : Kid) → Touches k → has (plus (plus (plus s k.1.effects.need) k.1.effects.add) k.1.effects.del) q ≡ true
  touched_now s k t =
      let n = k.1.effects.need in
      let a = k.1.effects.add in
      let d = k.1.effects.del in
      has-plus (plus (plus s n) a) d q ∙ elim t [
        | inl e ↦ or_right (has d q) _ (has-plus (plus s n) a q ∙ or_right (has a q) _ (has-plus s n q ∙ or_left (has n q) (has s q) e))
        | inr (inl e) ↦ or_right (has d q) _ (has-plus (plus s n) a q ∙ or_left (has a q) _ e)
        | inr (inr e) ↦ or_left (has d q) _ e
      ]

  pub touched_in : (s : List ℕ) (kids : List Kid) (k : Kid) → In k kids → Touches k → has (with_touched s kids) q ≡ true
  touched_in s [] k i t = elim i [ ]
  touched_in s (x ∷ kids) k here t = touched_keeps _ kids q (touched_now s x t)
  touched_in s (x ∷ kids) k (there i) t = touched_in (plus (plus (plus s x.1.effects.need) x.1.effects.add) x.1.effects.del) kids k i t

-- a test that asks for more
pub any_first : (t u : Kid → Bool) (kids : List Kid) → list_any (λ k. t k && u k) kids ≡ true → list_any t kids ≡ true
any_first t u kids e =
    let k = any_some (λ k. t k && u k) kids e in
    some_any t k.0 kids k.1 (and_parts (t k.0) (u k.0) k.2).0
