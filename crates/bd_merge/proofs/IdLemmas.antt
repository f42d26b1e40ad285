-- The merged tree's ids are distinct: how many times a number is among the ids.
use Rattle.std.proofs.Common.{◌≡◌, ℕ, ◌+◌, ◌*◌, ◌<◌, ◌≤◌, Bool, true, false, not, ◌||◌, eqb, cond, List, [], ◌∷◌, ◌++◌, length, map, refl, sym, ap, ◌∙◌, inl, inr, arith}
use Rattle.std.specs.List.{enumerate_from}
use Rattle.std.proofs.lemmas.Nat.{mul-le}
use Rattle.std.proofs.lemmas.Bool.{and_parts, and_from, cond-true, cond-false, eqb-true, eq-eqb, cases_eq, cases_lt, ne_eqb}
use Rattle.bd_base.specs.Facts.{has}
use Rattle.bd_tree.specs.declared.node.Node.{Node, Step, Block}
use Rattle.bd_tree.specs.Chain.{steps_from}
use Rattle.bd_tree.specs.Tree.{ids_of, nodes_of, joined, total, greatest}
use Rattle.bd_tree.specs.WellFormed.{are_distinct}
use Rattle.bd_tree.proofs.NodeLemmas.{Each, by_node, ids_of-Step, ids_of-Block, nodes_of-Step, nodes_of-Block}
use Rattle.bd_merge.proofs.CountLemmas.{apart, sums_split}
use Rattle.bd_merge.proofs.MergeLemmas.{merged_here, merged-Step, merged-Block}
use Rattle.bd_merge.specs.Merged.{is_front, is_back, fronts, backs, merged_kids, merged_places, merged_order, merged}
use Rattle.bd_merge.specs.declared.window.Window.{Window}

abbrev pub one_if : Bool → ℕ
one_if b = cond b 1 0

-- how many times a number is in a list
abbrev pub times : ℕ → List ℕ → ℕ
times q [] = 0
times q (x ∷ xs) = one_if (eqb x q) + times q xs

few_if : (b : Bool) → one_if b ≤ 1
few_if true = omega arith
few_if false = omega arith

times-append : (q : ℕ) (xs ys : List ℕ) → times q (xs ++ ys) ≡ times q xs + times q ys
times-append q [] ys = omega arith
times-append q (x ∷ xs) ys = omega (arith, times-append q xs ys)

none_if : (b h : Bool) (n : ℕ) → (b || h) ≡ false → (h ≡ false → n ≡ 0) → one_if b + n ≡ 0
none_if true h n e f = absurd (cc)
none_if false h n e f = omega (arith, f e)

pub times_none : (q : ℕ) (xs : List ℕ) → has xs q ≡ false → times q xs ≡ 0
times_none q [] h = refl
times_none q (x ∷ xs) h = none_if (eqb x q) (has xs q) (times q xs) h (times_none q xs)

has_if : (b h : Bool) (n : ℕ) → one_if b + n ≡ 0 → (n ≡ 0 → h ≡ false) → (b || h) ≡ false
has_if true h n e f = absurd (omega arith)
has_if false h n e f = f (omega arith)

has_none : (q : ℕ) (xs : List ℕ) → times q xs ≡ 0 → has xs q ≡ false
has_none q [] e = refl
has_none q (x ∷ xs) e = has_if (eqb x q) (has xs q) (times q xs) e (has_none q xs)

pub not_true : (b : Bool) → not b ≡ true → b ≡ false
not_true true e = absurd (cc)
not_true false e = refl

once_if : (b : Bool) (n : ℕ) → n ≤ 1 → (b ≡ true → n ≡ 0) → one_if b + n ≤ 1
once_if true n le h = omega (arith, h refl)
once_if false n le h = omega arith

-- distinct numbers are in the list once at most, and the other way round
pub times_once : (q : ℕ) (xs : List ℕ) → are_distinct xs ≡ true → times q xs ≤ 1
times_once q [] d = omega arith
times_once q (x ∷ xs) d =
    let parts = and_parts (not (has xs x)) (are_distinct xs) d in
    once_if (eqb x q) (times q xs) (times_once q xs parts.1) (λ e. times_none q xs (ap (has xs) (sym (eqb-true x q e)) ∙ not_true (has xs x) parts.0))

pub distinct_if : (xs : List ℕ) → ((q : ℕ) → times q xs ≤ 1) → are_distinct xs ≡ true
distinct_if [] h = refl
distinct_if (x ∷ xs) h =
    let here : one_if (eqb x x) ≡ 1 = ap one_if (eq-eqb x x refl) in
    and_from _ _ (ap not (has_none x xs (omega (arith, h x, here)))) (distinct_if xs (λ q. omega (arith, h q)))

-- a number above all isn't in the list
times_above : (q : ℕ) (xs : List ℕ) → greatest xs < q → times q xs ≡ 0
times_above q [] lt = refl
times_above q (x ∷ xs) lt = omega (arith, times_above q xs (omega arith), ap one_if (ne_eqb x q (omega arith)))

module _ (q : ℕ) where
  abbrev pub times_in : Node → ℕ
  times_in n = times q (ids_of n)

  times-joined : (ns : List Node) → times q (joined (map ids_of ns)) ≡ total (map times_in ns)
  times-joined [] = refl
  times-joined (n ∷ ns) = times-append q (ids_of n) (joined (map ids_of ns)) ∙ ap (λ z. times_in n + z) (times-joined ns)

  pub times_in-Step : (id a : ℕ) → times_in (Step id a) ≡ one_if (eqb id q)
  times_in-Step id a = omega (arith, ap (times q) (ids_of-Step id a))

  pub times_in-Block : (id : ℕ) (kids : List Node) (order : List (ℕ × ℕ)) → times_in (Block id kids order) ≡ one_if (eqb id q) + total (map times_in kids)
  times_in-Block id kids order = ap (times q) (ids_of-Block id kids order) ∙ ap (λ z. one_if (eqb id q) + z) (times-joined kids)

  -- the new ids are above the last, once each
  none_below : (m : ℕ) (list : List ℕ) → q < m → total (map times_in (steps_from m list)) ≡ 0
  none_below m [] lt = refl
  none_below m (a ∷ list) lt = omega (arith, times_in-Step m a, ap one_if (ne_eqb m q (omega arith)), none_below (m + 1) list (omega arith))

  once_new : (m : ℕ) (list : List ℕ) → total (map times_in (steps_from m list)) ≤ 1
  once_new m [] = omega arith
  once_new m (a ∷ list) = elim (cases_eq m q) [
    | inl e ↦ omega (arith, times_in-Step m a, few_if (eqb m q), none_below (m + 1) list (omega (arith, e)))
    | inr ne ↦ omega (arith, times_in-Step m a, ap one_if (ne_eqb m q ne), once_new (m + 1) list)
  ]

-- sums over parts of a listing
module _ (g : Node → ℕ) where
  pub sums-append : (xs ys : List Node) → total (map g (xs ++ ys)) ≡ total (map g xs) + total (map g ys)
  sums-append [] ys = omega arith
  sums-append (x ∷ xs) ys = omega (arith, sums-append xs ys)

  pub sums-nodes : (ks : List (ℕ × Node)) → total (map g (map (λ (k : ℕ × Node). k.1) ks)) ≡ total (map (λ (k : ℕ × Node). g k.1) ks)
  sums-nodes [] = refl
  sums-nodes (k ∷ ks) = ap (λ z. g k.1 + z) (sums-nodes ks)

  pub sums-numbered : (m : ℕ) (ks : List Node) → total (map (λ (k : ℕ × Node). g k.1) (enumerate_from m ks)) ≡ total (map g ks)
  sums-numbered m [] = refl
  sums-numbered m (k ∷ ks) = ap (λ z. g k + z) (sums-numbered (m + 1) ks)

  -- the new kids have no more than the old ones and the new steps
  pub sums_merged : (window : Window) (list : List ℕ) (next : ℕ) (order : List (ℕ × ℕ)) (kids : List Node) →
      total (map g (merged_kids window list next order (enumerate_from 0 kids))) ≤ total (map g kids) + total (map g (steps_from next list))
  sums_merged window list next order kids =
      let all = enumerate_from 0 kids in
      let f = map (λ (k : ℕ × Node). k.1) (fronts window order all) in
      let b = map (λ (k : ℕ × Node). k.1) (backs window order all) in
      let s = steps_from next list in
      let split : total (map (λ (k : ℕ × Node). g k.1) (fronts window order all)) + total (map (λ (k : ℕ × Node). g k.1) (backs window order all)) ≤ total (map (λ (k : ℕ × Node). g k.1) all) = sums_split (λ (k : ℕ × Node). g k.1) (is_front window order all) (is_back window order all) (apart window order all) all in
      let one : total (map g ((f ++ s) ++ b)) ≡ total (map g (f ++ s)) + total (map g b) = sums-append (f ++ s) b in
      let two : total (map g (f ++ s)) ≡ total (map g f) + total (map g s) = sums-append f s in
      let goal : total (map g ((f ++ s) ++ b)) ≤ total (map g kids) + total (map g s) = omega (arith, split, one, two, sums-nodes (fronts window order all), sums-nodes (backs window order all), sums-numbered 0 kids) in
      goal

module _ (window : Window) (list : List ℕ) (next q : ℕ) where
  abbrev news : ℕ
  news = total (map (times_in q) (steps_from next list))

  abbrev blocks : Node → ℕ
  blocks n = times_in window.block n

  -- an id is in the merged tree as often as before, and in the new steps once for each node with the block's id
  abbrev HasFewIds : Node → Type 0
  HasFewIds n = times_in q (merged_here window list next n) ≤ times_in q n + blocks n * news

  few_in_kids : (kids : List Node) → Each HasFewIds kids → total (map (times_in q) (map (merged_here window list next) kids)) ≤ total (map (times_in q) kids) + total (map blocks kids) * news
  few_in_kids [] e = omega arith
  few_in_kids (k ∷ ks) e = omega (arith, e.0, few_in_kids ks e.1)

  few_in_step : (own a : ℕ) → HasFewIds (Step own a)
  few_in_step own a = omega (arith, ap (times_in q) (merged-Step window list next own a))

  few_in_block : (own : ℕ) (kids : List Node) (order : List (ℕ × ℕ)) → Each HasFewIds kids → HasFewIds (Block own kids order)
  few_in_block own kids order e = elim (cases_eq own window.block) [
    | inl same ↦
        let t : eqb own window.block ≡ true = eq-eqb own window.block same in
        let here : blocks (Block own kids order) ≡ 1 + total (map blocks kids) = omega (arith, times_in-Block window.block own kids order, ap one_if t) in
        let is : times_in q (merged_here window list next (Block own kids order)) ≡ one_if (eqb own q) + total (map (times_in q) (merged_kids window list next order (enumerate_from 0 kids))) =
        ap (times_in q) (merged-Block window list next own kids order ∙ cond-true _ _ _ t)
        ∙ times_in-Block q own (merged_kids window list next order (enumerate_from 0 kids)) (merged_order order (merged_places window list order (enumerate_from 0 kids))) in
        let old : times_in q (Block own kids order) ≡ one_if (eqb own q) + total (map (times_in q) kids) = times_in-Block q own kids order in
        let all : blocks (Block own kids order) * news ≡ (1 + total (map blocks kids)) * news = ap (λ z. z * news) here in
        omega (arith, is, old, all, sums_merged (times_in q) window list next order kids)
    | inr ne ↦
        let f : eqb own window.block ≡ false = ne_eqb own window.block ne in
        let here : blocks (Block own kids order) ≡ total (map blocks kids) = omega (arith, times_in-Block window.block own kids order, ap one_if f) in
        let is : times_in q (merged_here window list next (Block own kids order)) ≡ one_if (eqb own q) + total (map (times_in q) (map (merged_here window list next) kids)) =
        ap (times_in q) (merged-Block window list next own kids order ∙ cond-false _ _ _ f)
        ∙ times_in-Block q own (map (merged_here window list next) kids) order in
        let old : times_in q (Block own kids order) ≡ one_if (eqb own q) + total (map (times_in q) kids) = times_in-Block q own kids order in
        let all : blocks (Block own kids order) * news ≡ total (map blocks kids) * news = ap (λ z. z * news) here in
        omega (arith, is, old, all, few_in_kids kids e)
  ]

  few_ids : (n : Node) → HasFewIds n
  few_ids = by_node HasFewIds few_in_step few_in_block

  once_merged : (n : Node) → are_distinct (ids_of n) ≡ true → greatest (ids_of n) < next → times_in q (merged_here window list next n) ≤ 1
  once_merged n d lt =
      let old : times_in q n ≤ 1 = times_once q (ids_of n) d in
      let block : blocks n ≤ 1 = times_once window.block (ids_of n) d in
      let new : news ≤ 1 = once_new q next list in
      let both : blocks n * news ≤ 1 * 1 = mul-le (blocks n) news 1 1 block new in
      elim (cases_lt q next) [
        | inl below ↦
            let none : news ≡ 0 = none_below q next list below in
            let zero : blocks n * news ≡ blocks n * 0 = ap (λ z. blocks n * z) none in
            omega (arith, few_ids n, zero)
        | inr above ↦
            let fresh : times_in q n ≡ 0 = times_above q (ids_of n) (omega (arith, above)) in
            omega (arith, few_ids n, fresh, both)
      ]

pub merged_distinct : (window : Window) (list : List ℕ) (next : ℕ) (n : Node) → are_distinct (ids_of n) ≡ true → greatest (ids_of n) < next → are_distinct (ids_of (merged n window list next)) ≡ true
merged_distinct window list next n d lt = distinct_if (ids_of (merged n window list next)) (λ q. once_merged window list next q n d lt)

-- how many nodes a merged tree has, and how great its ids are
module _ (window : Window) (list : List ℕ) (next : ℕ) where
  as_many_nodes : (m : ℕ) (l : List ℕ) → total (map nodes_of (steps_from m l)) ≡ length l
  as_many_nodes m [] = refl
  as_many_nodes m (a ∷ l) = omega (arith, nodes_of-Step m a, as_many_nodes (m + 1) l)

  abbrev HasFewNodes : Node → Type 0
  HasFewNodes n = nodes_of (merged_here window list next n) ≤ nodes_of n + times_in window.block n * length list

  few_nodes_in_kids : (kids : List Node) → Each HasFewNodes kids → total (map nodes_of (map (merged_here window list next) kids)) ≤ total (map nodes_of kids) + total (map (times_in window.block) kids) * length list
  few_nodes_in_kids [] e = omega arith
  few_nodes_in_kids (k ∷ ks) e = omega (arith, e.0, few_nodes_in_kids ks e.1)

  few_nodes_in_block : (own : ℕ) (kids : List Node) (order : List (ℕ × ℕ)) → Each HasFewNodes kids → HasFewNodes (Block own kids order)
  few_nodes_in_block own kids order e =
      let b = total (map (times_in window.block) kids) in
      let old : nodes_of (Block own kids order) ≡ 1 + total (map nodes_of kids) = nodes_of-Block own kids order in
      elim (cases_eq own window.block) [
        | inl same ↦
            let t : eqb own window.block ≡ true = eq-eqb own window.block same in
            let here : times_in window.block (Block own kids order) ≡ 1 + b = omega (arith, times_in-Block window.block own kids order, ap one_if t) in
            let all : times_in window.block (Block own kids order) * length list ≡ (1 + b) * length list = ap (λ z. z * length list) here in
            let new = merged_kids window list next order (enumerate_from 0 kids) in
            let is : nodes_of (merged_here window list next (Block own kids order)) ≡ 1 + total (map nodes_of new) =
            ap nodes_of (merged-Block window list next own kids order ∙ cond-true _ _ _ t)
            ∙ nodes_of-Block own new (merged_order order (merged_places window list order (enumerate_from 0 kids))) in
            omega (arith, is, old, all, sums_merged nodes_of window list next order kids, as_many_nodes next list)
        | inr ne ↦
            let f : eqb own window.block ≡ false = ne_eqb own window.block ne in
            let here : times_in window.block (Block own kids order) ≡ b = omega (arith, times_in-Block window.block own kids order, ap one_if f) in
            let all : times_in window.block (Block own kids order) * length list ≡ b * length list = ap (λ z. z * length list) here in
            let is : nodes_of (merged_here window list next (Block own kids order)) ≡ 1 + total (map nodes_of (map (merged_here window list next) kids)) =
            ap nodes_of (merged-Block window list next own kids order ∙ cond-false _ _ _ f)
            ∙ nodes_of-Block own (map (merged_here window list next) kids) order in
            omega (arith, is, old, all, few_nodes_in_kids kids e)
      ]

  few_nodes : (n : Node) → HasFewNodes n
  few_nodes = by_node HasFewNodes (λ own a. omega (arith, ap nodes_of (merged-Step window list next own a))) few_nodes_in_block

  pub merged_nodes : (n : Node) → are_distinct (ids_of n) ≡ true → nodes_of (merged n window list next) ≤ nodes_of n + length list
  merged_nodes n d =
      let once : times_in window.block n ≤ 1 = times_once window.block (ids_of n) d in
      let all : times_in window.block n * length list ≤ 1 * length list = mul-le (times_in window.block n) (length list) 1 (length list) once (omega arith) in
      omega (arith, few_nodes n, all)

  none_above : (q m : ℕ) (l : List ℕ) → m + length l ≤ q → total (map (times_in q) (steps_from m l)) ≡ 0
  none_above q m [] le = refl
  none_above q m (a ∷ l) le = omega (arith, times_in-Step q m a, ap one_if (ne_eqb m q (omega arith)), none_above q (m + 1) l (omega arith))

  greatest_below : (bound : ℕ) (xs : List ℕ) → 0 < bound → ((q : ℕ) → bound ≤ q → times q xs ≡ 0) → greatest xs < bound
  greatest_below bound [] lt h = omega arith
  greatest_below bound (x ∷ xs) lt h =
      let here : one_if (eqb x x) ≡ 1 = ap one_if (eq-eqb x x refl) in
      let rest : greatest xs < bound = greatest_below bound xs lt (λ q le. omega (arith, h q le)) in
      elim (cases_lt x bound) [ inl less ↦ omega (arith, less, rest) | inr le ↦ absurd (omega (arith, h x le, here)) ]

  pub merged_top : (n : Node) → greatest (ids_of n) < next → greatest (ids_of (merged n window list next)) < next + length list
  merged_top n fresh = greatest_below (next + length list) (ids_of (merged n window list next)) (omega arith) (λ q le.
      let old : times_in q n ≡ 0 = times_above q (ids_of n) (omega arith) in
      let new : news window list next q ≡ 0 = none_above q next list le in
      let all : times_in window.block n * news window list next q ≡ times_in window.block n * 0 = ap (λ z. times_in window.block n * z) new in
      omega (arith, few_ids window list next q n, old, all))
