-- The pair of two kids, told by their positions, where each id is one kid's alone.
use Rattle.std.proofs.Common.{◌≡◌, ℕ, zero, suc, ◌+◌, ◌<◌, ◌≤◌, Bool, true, false, not, ◌&&◌, ltb, eqb, cond, List, [], ◌∷◌, length, map, filter, drop, get_or, Some, None, refl, sym, ap, ◌∙◌, inl, inr, arith}
use Rattle.std.specs.List.{list_all, position, position_or_len}
use Rattle.std.proofs.lemmas.Bool.{and_parts, and_from, or_parts, cases_eq, eq-eqb, eqb-true, ne_eqb, ltb-true, ltb-false}
use Rattle.std.proofs.lemmas.List.{drop_more}
use Rattle.std.proofs.lemmas.List.Elements.{filter_agree}
use Rattle.bd_base.specs.Facts.{has}
use Rattle.bd_base.specs.Pairs.{without_pair}
use Rattle.bd_tree.specs.declared.node.Node.{Node, Block}
use Rattle.bd_tree.specs.Tree.{id_of, ids_of, total}
use Rattle.bd_tree.specs.WellFormed.{are_distinct}
use Rattle.bd_shape.specs.Unordered.{stands_at, unordered_pairs}
use Rattle.bd_shape.proofs.TimesLemmas.{distinct_if, not_true, own_ids, times_in, times_in-Block, times_once}

same_test : (a b c d : ℕ) → (a ≡ b → c ≡ d) → (c ≡ d → a ≡ b) → eqb a b ≡ eqb c d
same_test a b c d f g = elim (cases_eq a b) [
  | inl e ↦ eq-eqb a b e ∙ sym (eq-eqb c d (f e))
  | inr ne ↦ ne_eqb a b ne ∙ sym (ne_eqb c d (λ e. ne (g e)))
]

all_stay : (ps : List (ℕ × ℕ)) → filter (λ (p : ℕ × ℕ). true) ps ≡ ps
all_stay [] = refl
all_stay (p ∷ ps) = ap (λ z. p ∷ z) (all_stay ps)

module _ (id : ℕ) where
  abbrev is_own : Node → Bool
  is_own kid = eqb (id_of kid) id

  abbrev first : List Node → ℕ
  first kids = position_or_len is_own kids

  nowhere : (kids : List Node) → has (map id_of kids) id ≡ false → (q : ℕ) → stands_at kids id q ≡ false
  nowhere [] e q = refl
  nowhere (k ∷ ks) e zero = (or_parts (eqb (id_of k) id) (has (map id_of ks) id) e).0
  nowhere (k ∷ ks) e (suc q) = nowhere ks (or_parts (eqb (id_of k) id) (has (map id_of ks) id) e).1 q

  -- the first kid with the id is the only one
  alone : (kids : List Node) → are_distinct (map id_of kids) ≡ true → first kids < length kids → (q : ℕ) → stands_at kids id q ≡ eqb q (first kids)
  alone [] d lt q = absurd (omega arith)
  alone (k ∷ ks) d lt q =
      let parts = and_parts (not (has (map id_of ks) (id_of k))) (are_distinct (map id_of ks)) d in
      by (eqb (id_of k) id) refl lt q
      (λ e. nowhere ks (ap (has (map id_of ks)) (sym (eqb-true (id_of k) id e)) ∙ not_true (has (map id_of ks) (id_of k)) parts.0))
      (alone ks parts.1)
    where
      by : (b : Bool) → eqb (id_of k) id ≡ b → cond (not b) (1 + first ks) 0 < suc (length ks) → (q : ℕ) → (b ≡ true → (q : ℕ) → stands_at ks id q ≡ false) → (first ks < length ks → (q : ℕ) → stands_at ks id q ≡ eqb q (first ks)) →
          stands_at (k ∷ ks) id q ≡ eqb q (cond (not b) (1 + first ks) 0)
      by true e lt zero none rest = e ∙ sym (eq-eqb 0 0 refl)
      by true e lt (suc q) none rest = none refl q ∙ sym (ne_eqb (suc q) 0 (λ e. omega arith))
      by false e lt zero none rest = e ∙ sym (ne_eqb 0 (1 + first ks) (λ e. omega arith))
      by false e lt (suc q) none rest = rest (omega arith) q ∙ same_test q (first ks) (suc q) (1 + first ks) (λ e. omega arith) (λ e. omega arith)

  missed : (kids : List Node) → length kids ≤ first kids → (q : ℕ) → stands_at kids id q ≡ false
  missed [] le q = refl
  missed (k ∷ ks) le q = by (eqb (id_of k) id) refl le q (missed ks)
    where
      by : (b : Bool) → eqb (id_of k) id ≡ b → suc (length ks) ≤ cond (not b) (1 + first ks) 0 → (q : ℕ) → (length ks ≤ first ks → (q : ℕ) → stands_at ks id q ≡ false) → stands_at (k ∷ ks) id q ≡ false
      by true e le q rest = absurd (omega arith)
      by false e le zero rest = e
      by false e le (suc q) rest = rest (omega arith) q

  found_first : (b : Bool) (n a : ℕ) → cond b (Some n) None ≡ Some a → (b ≡ true) × (n ≡ a)
  found_first true n a e = let same : n ≡ a = cc in (refl, same)
  found_first false n a e = absurd (cc)

  none_first : (b : Bool) (n : ℕ) → cond b (Some n) None ≡ None → b ≡ false
  none_first true n e = absurd (cc)
  none_first false n e = refl

  pub stands_alone : (kids : List Node) (a : ℕ) → are_distinct (map id_of kids) ≡ true → position is_own kids ≡ Some a → (q : ℕ) → stands_at kids id q ≡ eqb q a
  stands_alone kids a d e q =
      let found = found_first (ltb (first kids) (length kids)) (first kids) a e in
      alone kids d (ltb-true _ _ found.0) q ∙ ap (eqb q) found.1

  pub stands_nowhere : (kids : List Node) → position is_own kids ≡ None → (q : ℕ) → stands_at kids id q ≡ false
  stands_nowhere kids e q = missed kids (ltb-false _ _ (none_first (ltb (first kids) (length kids)) (first kids) e)) q

module _ (i j : ℕ) (kids : List Node) (order : List (ℕ × ℕ)) where
  kept_all : ((p : ℕ × ℕ) → (stands_at kids i p.0 && stands_at kids j p.1) ≡ false) → order ≡ unordered_pairs i j kids order
  kept_all h = sym (filter_agree (λ (p : ℕ × ℕ). not (stands_at kids i p.0 && stands_at kids j p.1)) (λ p. true) (λ p. ap not (h p)) order ∙ all_stay order)

  -- nothing stands before another where the first kid isn't there
  pub no_first : position (is_own i) kids ≡ None → order ≡ unordered_pairs i j kids order
  no_first e = kept_all (λ p. ap (λ z. z && stands_at kids j p.1) (stands_nowhere i kids e p.0))

  pub no_second : position (is_own j) kids ≡ None → order ≡ unordered_pairs i j kids order
  no_second e = kept_all (λ p. ap (λ z. stands_at kids i p.0 && z) (stands_nowhere j kids e p.1) ∙ none (stands_at kids i p.0))
    where
      none : (b : Bool) → (b && false) ≡ false
      none true = refl
      none false = refl

  -- the two kids stand at one position each
  pub one_pair : are_distinct (map id_of kids) ≡ true → (a b m n : ℕ) → position (is_own i) kids ≡ Some a → position (is_own j) kids ≡ Some b → m ≡ a → n ≡ b → without_pair m n order ≡ unordered_pairs i j kids order
  one_pair d a b m n first second m_is n_is = sym (filter_agree (λ (p : ℕ × ℕ). not (stands_at kids i p.0 && stands_at kids j p.1)) (λ p. not (eqb p.0 m && eqb p.1 n)) (λ p.
      ap (λ z. not (z && stands_at kids j p.1)) (stands_alone i kids a d first p.0 ∙ ap (eqb p.0) (sym m_is))
      ∙ ap (λ z. not (eqb p.0 m && z)) (stands_alone j kids b d second p.1 ∙ ap (eqb p.1) (sym n_is))) order)

-- a part has distinct ids where the whole has them
module _ (node : Node) (id : ℕ) (kids ks : List Node) (order : List (ℕ × ℕ)) (is : node ≡ Block id kids order) (same : ks ≡ kids) (distinct : are_distinct (ids_of node) ≡ true) where
  inside : (q : ℕ) → total (map (times_in q) ks) ≤ 1
  inside q = omega (arith, times_once q (ids_of node) distinct, ap (times_in q) is, times_in-Block q id kids order, ap (λ (z : List Node). total (map (times_in q) z)) same)

  pub distinct_kids : are_distinct (map id_of ks) ≡ true
  distinct_kids = distinct_if (map id_of ks) (λ q. omega (arith, inside q, own_ids q ks))

  pub distinct_in_kids : list_all (λ b. b) (map (λ (k : Node). are_distinct (ids_of k)) ks) ≡ true
  distinct_in_kids = each ks inside
    where
      each : (ns : List Node) → ((q : ℕ) → total (map (times_in q) ns) ≤ 1) → list_all (λ b. b) (map (λ (k : Node). are_distinct (ids_of k)) ns) ≡ true
      each [] h = refl
      each (n ∷ ns) h = and_from _ _ (distinct_if (ids_of n) (λ q. omega (arith, h q))) (each ns (λ q. omega (arith, h q)))

-- one kid less of a walk through the kids
pub distinct_behind : (ns : List Node) (n : ℕ) (k : Node) → n < length ns → k ≡ get_or ns n k → list_all (λ b. b) (map (λ (k : Node). are_distinct (ids_of k)) (drop n ns)) ≡ true → list_all (λ b. b) (map (λ (k : Node). are_distinct (ids_of k)) (drop (n + 1) ns)) ≡ true
distinct_behind ns n k lt is e =
    let all = λ (ms : List Node). list_all (λ b. b) (map (λ (m : Node). are_distinct (ids_of m)) ms) in
    (and_parts (are_distinct (ids_of (get_or ns n k))) (all (drop (n + 1) ns)) (sym (ap all (drop_more ns n k lt)) ∙ e)).1
