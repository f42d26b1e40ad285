-- The effects of some kids of a block, by the rows that rare kids touch and by what the whole block does.
use Rattle.std.proofs.Common.{◌≡◌, ℕ, suc, ◌+◌, Bool, true, false, cond, not, ◌&&◌, ◌||◌, eqb, List, [], ◌∷◌, filter, map, Option, Some, None, refl, sym, ap, ◌∙◌, subst, inl, inr, arith}
use Rattle.std.specs.List.{list_any, list_all, slice_get, enumerate_from}
use Rattle.std.specs.Option.{option_map_or}
use Rattle.std.proofs.lemmas.Bool.{and_parts, and_from, both_ways, eq-eqb, eqb-true, or_left, or_right}
use Rattle.bd_base.specs.Facts.{IsRising, has, insert_fact, plus, remove_fact}
use Rattle.bd_base.proofs.FactLemmas.{has-insert_fact, has-plus, has-remove_fact, rising-insert_fact, rising-remove_fact, rising_same}
use Rattle.bd_base.specs.Pairs.{is_before}
use Rattle.bd_links.specs.Child.{Child}
use Rattle.bd_links.specs.declared.parts.Effects.{Effects}
use Rattle.bd_links.specs.Effects.{Kid, Order, is_linked, is_needed, is_given, is_deleted, all_facts, block_effects}
use Rattle.bd_links.proofs.Members.{In, here, there, any_some, some_any, has-filter, has-all_facts}
use Rattle.bd_links.proofs.SetLemmas.{rising-filter, rising-all_facts}
use Rattle.bd_subtask.specs.declared.fact_rows.FactRow.{FactRow}
use Rattle.bd_subtask.specs.declared.part.Part.{Part}
use Rattle.bd_subtask.specs.Level.{is_marked, is_rare, part_deletes, part_gives, part_needs, part_of, row_of, rows_of, settle_all, settled, settled_by, start_of, touched_rows, touches, with_rare, with_touched}
use Rattle.bd_subtask.proofs.Alike.{deleted_alike, given_alike, needed_alike}
use Rattle.bd_subtask.proofs.Lists.{filter_in, get_map, get_numbered, in_filter, in_map, map_get, map_numbered}
use Rattle.bd_subtask.proofs.PartLemmas.{Touches, any_first, deletes_is, gives_is, needs_is, touched_in}

-- ---- places of facts and of rows

place_of : (ps : List ℕ) (q : ℕ) → has ps q ≡ true → (r : ℕ) × (slice_get ps r ≡ Some q)
place_of [] q e = absurd (both_ways false refl e)
place_of (p ∷ ps) q e = by (eqb p q) refl e (place_of ps q)
  where
    by : (b : Bool) → eqb p q ≡ b → (b || has ps q) ≡ true → (has ps q ≡ true → (r : ℕ) × (slice_get ps r ≡ Some q)) → (r : ℕ) × (slice_get (p ∷ ps) r ≡ Some q)
    by true same h rest = (0, ap Some (eqb-true p q same))
    by false diff h rest = let r = rest h in (suc r.0, r.1)

in_has : (xs : List ℕ) (q : ℕ) → In q xs → has xs q ≡ true
in_has [] q i = elim i [ ]
in_has (x ∷ xs) q here = or_left (eqb q q) (has xs q) (eq-eqb q q refl)
in_has (x ∷ xs) q (there i) = or_right (eqb x q) (has xs q) (in_has xs q i)

has_any : (g : ℕ → Bool) (xs : List ℕ) (r : ℕ) → has xs r ≡ true → g r ≡ true → list_any g xs ≡ true
has_any g [] r e h = e
has_any g (x ∷ xs) r e h = by (eqb x r) refl e (has_any g xs r)
  where
    by : (b : Bool) → eqb x r ≡ b → (b || has xs r) ≡ true → (has xs r ≡ true → g r ≡ true → list_any g xs ≡ true) → (g x || list_any g xs) ≡ true
    by true same e rest = or_left (g x) (list_any g xs) (ap g (eqb-true x r same) ∙ h)
    by false diff e rest = or_right (g x) (list_any g xs) (rest e h)

touched_has : (q : ℕ) (k : Kid) → Touches q k → touches k.1 q ≡ true
touched_has q k t =
    let n = has k.1.effects.need q in
    let a = has k.1.effects.add q in
    let d = has k.1.effects.del q in
    elim t [
      | inl e ↦ or_left (n || a) d (or_left n a e)
      | inr (inl e) ↦ or_left (n || a) d (or_right n a e)
      | inr (inr e) ↦ or_right (n || a) d e
    ]

row_touched : (rows : List FactRow) (c : Child) (r : ℕ) (row : FactRow) → slice_get rows r ≡ Some row → touches c row.fact ≡ true → has (touched_rows rows c) r ≡ true
row_touched rows c r row at t =
    let zero_first : 0 + r ≡ r = omega arith in
    let there_is : In (r, row) (enumerate_from 0 rows) = subst (λ z. In (z, row) (enumerate_from 0 rows)) zero_first (get_numbered 0 rows r row at) in
    let kept = in_filter (λ (k : ℕ × FactRow). touches c k.1.fact) (enumerate_from 0 rows) (r, row) there_is t in
    in_has (touched_rows rows c) r (in_map (λ (k : ℕ × FactRow). k.0) (filter (λ (k : ℕ × FactRow). touches c k.1.fact) (enumerate_from 0 rows)) (r, row) kept)

-- ---- what rare kids touch

module _ (marks : List Bool) (most : Bool) (q : ℕ) where
  has_rare : (s : List ℕ) (ks : List (ℕ × List ℕ)) → has (with_rare marks most s ks) q ≡ (list_any (λ (k : ℕ × List ℕ). is_rare most (is_marked marks k.0) && has k.1 q) ks || has s q)
  has_rare s [] = refl
  has_rare s (k ∷ ks) = one (is_rare most (is_marked marks k.0)) (λ t. has_rare t ks)
    where
      rest : Bool
      rest = list_any (λ (k : ℕ × List ℕ). is_rare most (is_marked marks k.0) && has k.1 q) ks

      turned : (r h s : Bool) → (r || (h || s)) ≡ ((h || r) || s)
      turned true true s = refl
      turned true false s = refl
      turned false true s = refl
      turned false false s = refl

      one : (b : Bool) → ((t : List ℕ) → has (with_rare marks most t ks) q ≡ (rest || has t q)) → has (with_rare marks most (cond b (plus s k.1) s) ks) q ≡ (((b && has k.1 q) || rest) || has s q)
      one true h = h (plus s k.1) ∙ ap (λ z. rest || z) (has-plus s k.1 q) ∙ turned rest (has k.1 q) (has s q)
      one false h = h s

-- ---- facts that are settled by the rows

module _ (kids : List Kid) (ps : List ℕ) (q : ℕ) where
  abbrev is_at : ℕ → Bool
  is_at r = option_map_or (λ (row : FactRow). eqb row.fact q) (slice_get (map (row_of kids) ps) r) false

  module _ (t : FactRow → Bool) (u : ℕ → Bool) (same : (p : ℕ) → t (row_of kids p) ≡ u p) where
    has_settled : (p : ℕ) (b : Bool) (s : List ℕ) → has (settled p b s) q ≡ cond (eqb p q) b (has s q)
    has_settled p true s = has-insert_fact p s q ∙ by (eqb p q)
      where
        by : (e : Bool) → (e || has s q) ≡ cond e true (has s q)
        by true = refl
        by false = refl
    has_settled p false s = has-remove_fact p s q ∙ by (eqb p q)
      where
        by : (e : Bool) → (not e && has s q) ≡ cond e false (has s q)
        by true = refl
        by false = refl

    has_one : (r : ℕ) (s : List ℕ) → has (settled_by t (slice_get (map (row_of kids) ps) r) s) q ≡ cond (is_at r) (u q) (has s q)
    has_one r s = by (slice_get (map (row_of kids) ps) r) refl
      where
        by : (o : Option FactRow) → slice_get (map (row_of kids) ps) r ≡ o → has (settled_by t o s) q ≡ cond (option_map_or (λ (row : FactRow). eqb row.fact q) o false) (u q) (has s q)
        by None e = refl
        by (Some row) e = has_settled row.fact (t row) s ∙ told (eqb row.fact q) refl
          where
            m : (p : ℕ) × (slice_get ps r ≡ Some p) × (row ≡ row_of kids p)
            m = map_get (row_of kids) ps r row e

            told : (b : Bool) → eqb row.fact q ≡ b → cond b (t row) (has s q) ≡ cond b (u q) (has s q)
            told true h = ap t m.2 ∙ same m.0 ∙ ap u (sym (ap (λ (x : FactRow). x.fact) m.2) ∙ eqb-true row.fact q h)
            told false h = refl

    has_all : (rs s : List ℕ) → has (settle_all t (map (row_of kids) ps) s rs) q ≡ cond (list_any is_at rs) (u q) (has s q)
    has_all [] s = refl
    has_all (r ∷ rs) s =
        has_all rs (settled_by t (slice_get (map (row_of kids) ps) r) s)
        ∙ ap (λ z. cond (list_any is_at rs) (u q) z) (has_one r s)
        ∙ turned (list_any is_at rs) (is_at r)
      where
        turned : (a b : Bool) → cond a (u q) (cond b (u q) (has s q)) ≡ cond (b || a) (u q) (has s q)
        turned true true = refl
        turned true false = refl
        turned false true = refl
        turned false false = refl

rising_settled : (t : FactRow → Bool) (o : Option FactRow) (s : List ℕ) → IsRising s → IsRising (settled_by t o s)
rising_settled t None s r = r
rising_settled t (Some row) s r = elim (t row) as (λ b. IsRising (cond b (insert_fact row.fact s) (remove_fact row.fact s))) [
  | true ↦ rising-insert_fact row.fact s r
  | false ↦ rising-remove_fact row.fact s r
]

rising_all : (t : FactRow → Bool) (rows : List FactRow) (s rs : List ℕ) → IsRising s → IsRising (settle_all t rows s rs)
rising_all t rows s [] r = r
rising_all t rows s (x ∷ rs) r = rising_all t rows (settled_by t (slice_get rows x) s) rs (rising_settled t (slice_get rows x) s r)

module _ (marks : List Bool) (parts : List Child) (part : Part) (changed : part.changed ≡ with_rare marks part.most [] (enumerate_from 0 (map (λ (c : Child). plus [] (touched_rows (rows_of (enumerate_from 0 parts)) c)) parts))) where
  abbrev kids : List Kid
  kids = enumerate_from 0 parts

  abbrev chosen : List Kid
  chosen = part_of marks kids

  abbrev ps : List ℕ
  ps = with_touched [] kids

  abbrev rows : List FactRow
  rows = rows_of kids

  abbrev places : Child → List ℕ
  places c = plus [] (touched_rows rows c)

  -- a row at this place is changed
  abbrev is_changed : ℕ → Bool
  is_changed q = list_any (is_at kids ps q) part.changed

  -- a rare kid that touches a fact changes its row
  changes : (q : ℕ) (k : Kid) → In k kids → Touches q k → is_rare part.most (is_marked marks k.0) ≡ true → is_changed q ≡ true
  changes q k i t rare =
      let at = place_of ps q (touched_in q [] kids k i t) in
      let row = get_map (row_of kids) ps at.0 q at.1 in
      let own : has (places k.1) at.0 ≡ true = has-plus [] (touched_rows rows k.1) at.0 ∙ or_left _ (has [] at.0) (row_touched rows k.1 at.0 (row_of kids q) row (touched_has q k t)) in
      let listed : In (k.0, places k.1) (enumerate_from 0 (map places parts)) = subst (λ z. In (k.0, places k.1) z) (map_numbered places 0 parts) (in_map (λ (x : Kid). (x.0, places x.1)) kids k i) in
      let some : list_any (λ (x : ℕ × List ℕ). is_rare part.most (is_marked marks x.0) && has x.1 at.0) (enumerate_from 0 (map places parts)) ≡ true = some_any (λ (x : ℕ × List ℕ). is_rare part.most (is_marked marks x.0) && has x.1 at.0) (k.0, places k.1) (enumerate_from 0 (map places parts)) listed (and_from _ _ rare own) in
      let there_is : has part.changed at.0 ≡ true = ap (λ z. has z at.0) changed ∙ has_rare marks part.most at.0 [] (enumerate_from 0 (map places parts)) ∙ or_left _ (has [] at.0) some in
      has_any (is_at kids ps q) part.changed at.0 there_is (ap (λ o. option_map_or (λ (x : FactRow). eqb x.fact q) o false) row ∙ eq-eqb q q refl)

  -- a kid that touches a fact whose row isn't changed isn't rare
  not_rare : (q : ℕ) → is_changed q ≡ false → (k : Kid) → In k kids → Touches q k → is_rare part.most (is_marked marks k.0) ≡ false
  not_rare q none k i t = by (is_rare part.most (is_marked marks k.0)) refl
    where
      by : (b : Bool) → is_rare part.most (is_marked marks k.0) ≡ b → b ≡ false
      by true e = absurd (both_ways _ none (changes q k i t e))
      by false e = refl

  marked_where : (q : ℕ) → is_changed q ≡ false → part.most ≡ true → (k : Kid) → In k kids → Touches q k → is_marked marks k.0 ≡ true
  marked_where q none m k i t = by part.most (is_marked marks k.0) m (not_rare q none k i t)
    where
      by : (m b : Bool) → m ≡ true → cond m (not b) b ≡ false → b ≡ true
      by true true m e = refl
      by true false m e = absurd (both_ways true e refl)
      by false b m e = absurd (both_ways false refl m)

  unmarked_where : (q : ℕ) → is_changed q ≡ false → part.most ≡ false → (k : Kid) → In k kids → Touches q k → is_marked marks k.0 ≡ false
  unmarked_where q none m k i t = by part.most (is_marked marks k.0) m (not_rare q none k i t)
    where
      by : (m b : Bool) → m ≡ false → cond m (not b) b ≡ false → b ≡ false
      by true b m e = absurd (both_ways true m refl)
      by false b m e = e

  -- a set of the facts that pass a test is told by the rows' test
  module _ (f : Effects → List ℕ) (touch : (k : Kid) (q : ℕ) → has (f k.1.effects) q ≡ true → Touches q k) (t : FactRow → Bool) (u v : ℕ → Bool) (same : (p : ℕ) → t (row_of kids p) ≡ u p)
      (some : (q : ℕ) → u q ≡ true → list_any (λ (k : Kid). has (f k.1.effects) q) chosen ≡ true)
      (alike : (q : ℕ) → ((k : Kid) → In k kids → Touches q k → is_marked marks k.0 ≡ true) → u q ≡ v q)
      (whole : List ℕ) (whole_is : whole ≡ filter v (all_facts f kids)) where
    -- a kid of the part that has a fact which passes
    found : (q : ℕ) → u q ≡ true → (k : Kid) × In k kids × (is_marked marks k.0 ≡ true) × In k chosen × (has (f k.1.effects) q ≡ true)
    found q e =
        let k = any_some (λ (k : Kid). has (f k.1.effects) q) chosen (some q e) in
        let i = filter_in (λ (k : Kid). is_marked marks k.0) kids k.0 k.1 in
        (k.0, i.0, i.1, k.1, k.2)

    in_chosen : (q : ℕ) → u q ≡ true → has (all_facts f chosen) q ≡ true
    in_chosen q e = let k = found q e in has-all_facts f k.0 chosen q k.3 k.4

    in_kids : (q : ℕ) → u q ≡ true → has (all_facts f kids) q ≡ true
    in_kids q e = let k = found q e in has-all_facts f k.0 kids q k.1 k.4

    -- a fact whose row is changed
    where_changed : (q : ℕ) → is_changed q ≡ true → has (settle_all t rows (start_of part.most whole) part.changed) q ≡ (u q && has (all_facts f chosen) q)
    where_changed q e =
        has_all kids ps q t u same part.changed (start_of part.most whole)
        ∙ ap (λ z. cond z (u q) (has (start_of part.most whole) q)) e
        ∙ by (u q) refl
      where
        by : (b : Bool) → u q ≡ b → b ≡ (b && has (all_facts f chosen) q)
        by true e = sym (in_chosen q e)
        by false e = refl

    -- a fact whose row isn't
    where_same : (q : ℕ) → is_changed q ≡ false → has (settle_all t rows (start_of part.most whole) part.changed) q ≡ (u q && has (all_facts f chosen) q)
    where_same q none =
        has_all kids ps q t u same part.changed (start_of part.most whole)
        ∙ ap (λ z. cond z (u q) (has (start_of part.most whole) q)) none
        ∙ by part.most refl
      where
        few_case : (b : Bool) → u q ≡ b → part.most ≡ false → false ≡ (b && has (all_facts f chosen) q)
        few_case true e m = let k = found q e in absurd (both_ways (is_marked marks k.0.0) (unmarked_where q none m k.0 k.1 (touch k.0 q k.4)) k.2)
        few_case false e m = refl

        most_case : (b : Bool) → u q ≡ b → part.most ≡ true → has whole q ≡ (b && has (all_facts f chosen) q)
        most_case b e m =
            ap (λ z. has z q) whole_is ∙ has-filter v (all_facts f kids) q
            ∙ ap (λ z. z && has (all_facts f kids) q) (sym (alike q (marked_where q none m)) ∙ e)
            ∙ last b e
          where
            last : (b : Bool) → u q ≡ b → (b && has (all_facts f kids) q) ≡ (b && has (all_facts f chosen) q)
            last true e = in_kids q e ∙ sym (in_chosen q e)
            last false e = refl

        by : (m : Bool) → part.most ≡ m → has (start_of m whole) q ≡ (u q && has (all_facts f chosen) q)
        by true m = most_case (u q) refl m
        by false m = few_case (u q) refl m

    pub set_same : settle_all t rows (start_of part.most whole) part.changed ≡ filter u (all_facts f chosen)
    set_same = rising_same (settle_all t rows (start_of part.most whole) part.changed) (filter u (all_facts f chosen))
        (rising_all t rows (start_of part.most whole) part.changed rising_start)
        (rising-filter u (all_facts f chosen) (rising-all_facts f chosen))
        (λ q. by q (is_changed q) refl ∙ sym (has-filter u (all_facts f chosen) q))
      where
        rising_start : IsRising (start_of part.most whole)
        rising_start = elim part.most as (λ m. IsRising (cond m whole [])) [
          | true ↦ subst IsRising (sym whole_is) (rising-filter v (all_facts f kids) (rising-all_facts f kids))
          | false ↦ tt
        ]

        by : (q : ℕ) (b : Bool) → is_changed q ≡ b → has (settle_all t rows (start_of part.most whole) part.changed) q ≡ (u q && has (all_facts f chosen) q)
        by q true e = where_changed q e
        by q false e = where_same q e

  module _ (order : Order) where
    pub needs_same : settle_all (part_needs order marks) rows (start_of part.most (block_effects order kids).need) part.changed ≡ (block_effects order chosen).need
    needs_same = set_same (λ e. e.need) (λ k q e. inl e) (part_needs order marks) (is_needed order chosen) (is_needed order kids) (needs_is order marks kids)
        (λ q e. any_first (λ (j : Kid). has j.1.effects.need q) (λ (j : Kid). not (is_linked order chosen j.0 q)) chosen e)
        (λ q. needed_alike order marks kids q) (block_effects order kids).need refl

    pub gives_same : settle_all (part_gives order marks) rows (start_of part.most (block_effects order kids).add) part.changed ≡ (block_effects order chosen).add
    gives_same = set_same (λ e. e.add) (λ k q e. inr (inl e)) (part_gives order marks) (is_given order chosen) (is_given order kids) (gives_is order marks kids)
        (λ q e. any_first (λ (i : Kid). has i.1.effects.add q) (λ (i : Kid). list_all (λ (d : Kid). eqb d.0 i.0 || not (has d.1.effects.del q) || is_before order d.0 i.0) chosen) chosen e)
        (λ q. given_alike order marks kids q) (block_effects order kids).add refl

    pub deletes_same : settle_all (part_deletes order marks) rows (start_of part.most (block_effects order kids).del) part.changed ≡ (block_effects order chosen).del
    deletes_same = set_same (λ e. e.del) (λ k q e. inr (inr e)) (part_deletes order marks) (is_deleted order chosen) (is_deleted order kids) (deletes_is order marks kids)
        (λ q e. (and_parts (list_any (λ (d : Kid). has d.1.effects.del q) chosen) (not (is_given order chosen q)) e).0)
        (λ q. deleted_alike order marks kids q) (block_effects order kids).del refl
