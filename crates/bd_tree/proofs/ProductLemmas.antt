-- The products of an order, added up row by row and column by column.
use Rattle.std.proofs.Common.{◌≡◌, ℕ, zero, suc, ◌+◌, ◌-◌, ◌*◌, ◌<◌, ◌≤◌, ◌^◌, Bool, true, false, cond, ◌&&◌, ◌||◌, eqb, ltb, List, [], ◌∷◌, length, map, get_or, refl, sym, ap, ◌∙◌, inl, inr, arith}
use Rattle.std.specs.List.{list_all}
use Rattle.std.specs.Prelude.{slice_index}
use Rattle.std.proofs.lemmas.Bool.{and_parts, cases_eq, cond_both, eqb-true, eq-eqb, ne_eqb, ltb-true, false_from_ne_true}
use Rattle.std.proofs.lemmas.List.{get_or-map}
use Rattle.bd_base.specs.Pairs.{after_of, is_before}
use Rattle.bd_tree.specs.Order.{is_less, is_rising, is_within}
use Rattle.bd_tree.specs.Products.{first_steps, steps_before}
use Rattle.bd_tree.specs.Tree.{total, steps_of, products}
use Rattle.bd_tree.specs.declared.node.Node.{Node}
use Rattle.bd_tree.proofs.MisfitLemmas.{less_parts, IsLess}
use Rattle.bd_tree.proofs.OrderLemmas.{none_of}
use Rattle.bd_tree.proofs.SumLemmas.{sum_below, sum_more, sum_same, sum_apart, sum_none, sum_one, sum_fits, part_within}

-- a pair of a rising list isn't among the later ones
once : (p : ℕ × ℕ) (ps : List (ℕ × ℕ)) → list_all (is_less p) ps ≡ true → is_before ps p.0 p.1 ≡ false
once p ps later = none_of (is_less p) (λ q. eqb q.0 p.0 && eqb q.1 p.1) (λ q l. false_from_ne_true _ (λ e.
    let same = and_parts (eqb q.0 p.0) (eqb q.1 p.1) e in
    let first : q.0 ≡ p.0 = eqb-true _ _ same.0 in
    let second : q.1 ≡ p.1 = eqb-true _ _ same.1 in
    differs q first second (less_parts p q l))) ps later
  where
    differs : (q : ℕ × ℕ) → q.0 ≡ p.0 → q.1 ≡ p.1 → IsLess p q → ⊥
    differs q first second (inl up) = omega arith
    differs q first second (inr up) = omega (arith, up.1)

one_after : (p : ℕ × ℕ) (ps : List (ℕ × ℕ)) (i : ℕ) → length (after_of (p ∷ ps) i) ≡ cond (eqb p.0 i) 1 0 + length (after_of ps i)
one_after p ps i = elim (cases_eq p.0 i) [
  | inl e ↦ rw (eq-eqb p.0 i e) (omega arith)
  | inr ne ↦ rw (ne_eqb p.0 i ne) (omega arith)
]

or_off : (a b : Bool) → ((a && false) || b) ≡ b
or_off true b = refl
or_off false b = refl

module _ (steps : List ℕ) where
  abbrev at : ℕ → ℕ
  at i = slice_index steps i

  -- what the pairs of one position add to the steps of all first positions
  abbrev pub row : List (ℕ × ℕ) → ℕ → ℕ
  row order i = at i * length (after_of order i)

  pub rows_sum : (n : ℕ) (order : List (ℕ × ℕ)) → list_all (is_within n) order ≡ true → sum_below n (row order) ≡ first_steps order steps
  rows_sum n [] w = sum_none n (row []) (λ i lt. omega arith)
  rows_sum n (p ∷ ps) w =
      let parts = and_parts (is_within n p) (list_all (is_within n) ps) w in
      let pair = and_parts (ltb p.0 p.1) (ltb p.1 n) parts.0 in
      let up : p.0 < p.1 = ltb-true _ _ pair.0 in
      let below : p.1 < n = ltb-true _ _ pair.1 in
      let one : ℕ → ℕ = λ i. at i * cond (eqb p.0 i) 1 0 in
      omega (
        arith,
        sum_apart n (row (p ∷ ps)) one (row ps) (λ i lt. omega (arith, ap (λ z. at i * z) (one_after p ps i))),
        sum_one n one p.0 (at p.0) (omega arith) (rw (eq-eqb p.0 p.0 refl) (omega arith)) (λ i lt ne. rw (ne_eqb p.0 i ne) (omega arith)),
        rows_sum n ps parts.1,
      )

  one_before : (p : ℕ × ℕ) (ps : List (ℕ × ℕ)) (k : ℕ) → steps_before (p ∷ ps) steps k ≡ cond (eqb p.1 k) (at p.0) 0 + steps_before ps steps k
  one_before p ps k = elim (cases_eq p.1 k) [
    | inl e ↦ rw (eq-eqb p.1 k e) refl
    | inr ne ↦ rw (ne_eqb p.1 k ne) (omega arith)
  ]

  -- for each pair, the first kid's steps times a weight of the second position
  abbrev weighted : (ℕ → ℕ) → List (ℕ × ℕ) → ℕ
  weighted w [] = 0
  weighted w (p ∷ ps) = at p.0 * w p.1 + weighted w ps

  columns_sum : (weight : ℕ → ℕ) (n : ℕ) (order : List (ℕ × ℕ)) → list_all (is_within n) order ≡ true → sum_below n (λ k. weight k * steps_before order steps k) ≡ weighted weight order
  columns_sum weight n [] w = sum_none n (λ k. weight k * steps_before [] steps k) (λ k lt. omega arith)
  columns_sum weight n (p ∷ ps) w =
      let parts = and_parts (is_within n p) (list_all (is_within n) ps) w in
      let below : p.1 < n = ltb-true _ _ (and_parts (ltb p.0 p.1) (ltb p.1 n) parts.0).1 in
      let one : ℕ → ℕ = λ k. weight k * cond (eqb p.1 k) (at p.0) 0 in
      omega (
        arith,
        sum_apart n (λ k. weight k * steps_before (p ∷ ps) steps k) one (λ k. weight k * steps_before ps steps k) (λ k lt. omega (arith, ap (λ z. weight k * z) (one_before p ps k))),
        sum_one n one p.1 (at p.0 * weight p.1) below (rw (eq-eqb p.1 p.1 refl) (omega arith)) (λ k lt ne. rw (ne_eqb p.1 k ne) (omega arith)),
        columns_sum weight n ps parts.1,
      )

  weighted_ones : (order : List (ℕ × ℕ)) → weighted (λ k. 1) order ≡ first_steps order steps
  weighted_ones [] = refl
  weighted_ones (p ∷ ps) = omega (arith, weighted_ones ps)

  weighted_steps : (order : List (ℕ × ℕ)) → weighted at order ≡ products order steps
  weighted_steps [] = refl
  weighted_steps (p ∷ ps) = omega (arith, weighted_steps ps)

  -- what the pairs with one second position add to the products
  abbrev pub column : List (ℕ × ℕ) → ℕ → ℕ
  column order k = at k * steps_before order steps k

  pub column_is : (m d : ℕ) (order : List (ℕ × ℕ)) (k : ℕ) → m ≡ at k → d ≡ steps_before order steps k → m * d ≡ column order k
  column_is m d order k many before = ap (λ z. z * d) many ∙ ap (λ z. at k * z) before

  pub firsts_by_column : (n : ℕ) (order : List (ℕ × ℕ)) → list_all (is_within n) order ≡ true → sum_below n (steps_before order steps) ≡ first_steps order steps
  firsts_by_column n order w =
      sum_same n (steps_before order steps) (λ k. 1 * steps_before order steps k) (λ k lt. omega arith)
      ∙ columns_sum (λ k. 1) n order w ∙ weighted_ones order

  pub products_by_column : (n : ℕ) (order : List (ℕ × ℕ)) → list_all (is_within n) order ≡ true → sum_below n (column order) ≡ products order steps
  products_by_column n order w = columns_sum at n order w ∙ weighted_steps order

  -- a kid's part in the steps before kid k
  abbrev pub led : List (ℕ × ℕ) → ℕ → ℕ → ℕ
  led order k i = cond (is_before order i k) (at i) 0

  pub before_sum : (n k : ℕ) (order : List (ℕ × ℕ)) → list_all (is_within n) order ≡ true → is_rising order ≡ true → sum_below k (led order k) ≡ steps_before order steps k
  before_sum n k [] w r = sum_none k (led [] k) (λ i lt. refl)
  before_sum n k (p ∷ ps) w r =
      let ws = and_parts (is_within n p) (list_all (is_within n) ps) w in
      let rs = and_parts (list_all (is_less p) ps) (is_rising ps) r in
      let up : p.0 < p.1 = ltb-true _ _ (and_parts (ltb p.0 p.1) (ltb p.1 n) ws.0).0 in
      elim (cases_eq p.1 k) [
        | inl e ↦
            let one : ℕ → ℕ = λ i. cond (eqb p.0 i) (at i) 0 in
            omega (
              arith,
              sum_apart k (led (p ∷ ps) k) one (led ps k) (λ i lt. here i e (once p ps rs.0)),
              sum_one k one p.0 (at p.0) (omega arith) (rw (eq-eqb p.0 p.0 refl) refl) (λ i lt ne. rw (ne_eqb p.0 i ne) refl),
              one_before p ps k,
              ap (λ b. cond b (at p.0) 0) (eq-eqb p.1 k e),
              before_sum n k ps ws.1 rs.1,
            )
        | inr ne ↦
            omega (
              arith,
              sum_same k (led (p ∷ ps) k) (led ps k) (λ i lt. ap (λ b. cond ((eqb p.0 i && b) || is_before ps i k) (at i) 0) (ne_eqb p.1 k ne) ∙ ap (λ b. cond b (at i) 0) (or_off (eqb p.0 i) (is_before ps i k))),
              one_before p ps k,
              ap (λ b. cond b (at p.0) 0) (ne_eqb p.1 k ne),
              before_sum n k ps ws.1 rs.1,
            )
      ]
    where
      here : (i : ℕ) → p.1 ≡ k → is_before ps p.0 p.1 ≡ false → led (p ∷ ps) k i ≡ cond (eqb p.0 i) (at i) 0 + led ps k i
      here i e none = elim (cases_eq p.0 i) [
        | inl same ↦
            let out : is_before ps i k ≡ false = ap (λ z. is_before ps z k) (sym same) ∙ ap (is_before ps p.0) (sym e) ∙ none in
            rw (eq-eqb p.0 i same, eq-eqb p.1 k e, out) (omega arith)
        | inr ne ↦ rw (ne_eqb p.0 i ne) (omega arith)
      ]

part_of_total : (xs : List ℕ) (i : ℕ) → get_or xs i 0 ≤ total xs
part_of_total [] zero = omega arith
part_of_total [] (suc i) = omega arith
part_of_total (x ∷ xs) zero = omega arith
part_of_total (x ∷ xs) (suc i) = omega (arith, part_of_total xs i)

-- the kids of a block and their order
module _ (kids : List Node) (order : List (ℕ × ℕ)) (w : list_all (is_within (length kids)) order ≡ true) where
  abbrev pub counts : List ℕ
  counts = map steps_of kids

  pub steps_there : (i : ℕ) (k d : Node) → i < length kids → k ≡ get_or kids i d → at counts i ≡ steps_of k
  steps_there i k d lt is = get_or-map steps_of kids i d 0 lt ∙ ap steps_of (sym is)

  -- the first i rows and the next one
  pub rows_within : (i m s : ℕ) → i < length kids → m ≡ at counts i → s ≡ length (after_of order i) → sum_below i (row counts order) + m * s ≤ first_steps order counts
  rows_within i m s lt is long =
      let part : m * s ≡ row counts order i = ap (λ z. z * s) is ∙ ap (λ z. at counts i * z) long in
      omega (arith, part, part_within (length kids) i (row counts order) lt, rows_sum counts (length kids) order w)

  -- the first k columns and the next one
  pub columns_within : (k : ℕ) → k < length kids → sum_below k (column counts order) + column counts order k ≤ products order counts
  columns_within k lt = omega (arith, part_within (length kids) k (column counts order) lt, products_by_column counts (length kids) order w)

  -- what is counted, where the first k kids are counted again
  abbrev pub IsCounted : ℕ → ℕ → Type 0
  IsCounted k sum = sum + sum_below k (steps_before order counts) ≡ first_steps order counts + sum_below k (column counts order)

  pub counts_before : (k sum : ℕ) → k < length kids → IsCounted k sum → steps_before order counts k ≤ sum
  counts_before k sum lt is = omega (arith, is, part_within (length kids) k (steps_before order counts) lt, firsts_by_column counts (length kids) order w)

  pub counted_again : (k sum next m d : ℕ) → k < length kids → IsCounted k sum → m ≡ at counts k → d ≡ steps_before order counts k → next ≡ sum - d + m * d → IsCounted (k + 1) next
  counted_again k sum next m d lt is many before again =
      let part : m * d ≡ column counts order k = column_is counts m d order k many before in
      omega (arith, is, part, before, again, counts_before k sum lt is, sum_more k (steps_before order counts), sum_more k (column counts order))

  pub counted_once : (k sum next : ℕ) → IsCounted k sum → at counts k ≡ 1 → next ≡ sum → IsCounted (k + 1) next
  counted_once k sum next is one same =
      let part : column counts order k ≡ 1 * steps_before order counts k = ap (λ z. z * steps_before order counts k) one in
      omega (arith, is, part, same, sum_more k (steps_before order counts), sum_more k (column counts order))

  pub all_counted : (k sum : ℕ) → k ≡ length kids → IsCounted k sum → sum ≡ products order counts
  all_counted k sum e is =
      let whole : IsCounted (length kids) sum = ap (λ z. sum + sum_below z (steps_before order counts)) (sym e) ∙ is ∙ ap (λ z. first_steps order counts + sum_below z (column counts order)) e in
      omega (arith, whole, firsts_by_column counts (length kids) order w, products_by_column counts (length kids) order w)

  module _ (few : total (map steps_of kids) < 2 ^ 32) where
    led_fits : (k i : ℕ) → led counts order k i ≤ 2 ^ 32
    led_fits k i = cond_both (is_before order i k) (at counts i) 0 (λ z. z ≤ 2 ^ 32) (λ e. omega (arith, part_of_total counts i)) (λ e. omega arith)

    pub part_before_fits : (k i : ℕ) → sum_below i (led counts order k) ≤ i * 2 ^ 32
    part_before_fits k i = sum_fits i (2 ^ 32) (led counts order k) (λ j lt. led_fits k j)

    pub firsts_fit : is_rising order ≡ true → length kids ≤ 8192 → first_steps order counts ≤ 2 ^ 58
    firsts_fit r short =
        omega (
          arith,
          firsts_by_column counts (length kids) order w,
          sum_fits (length kids) (2 ^ 45) (steps_before order counts) (λ k lt. omega (arith, part_before_fits k k, before_sum counts (length kids) k order w r)),
        )
