-- How many times a number is among the ids of a node, and sums over parts of a listing.
use Rattle.std.proofs.Common.{◌≡◌, ℕ, ◌+◌, ◌<◌, ◌≤◌, Bool, true, false, not, ◌||◌, eqb, cond, List, [], ◌∷◌, ◌++◌, map, Option, Some, None, refl, sym, ap, ◌∙◌, inl, inr, arith}
use Rattle.std.specs.List.{enumerate_from}
use Rattle.std.proofs.lemmas.Bool.{and_parts, and_from, cond-true, cond-false, eqb-true, eq-eqb, cases_eq, cases_lt, ne_eqb}
use Rattle.bd_base.specs.Facts.{has}
use Rattle.bd_tree.specs.declared.node.Node.{Node, Step, Block}
use Rattle.bd_tree.specs.Tree.{id_of, ids_of, joined, total, greatest, find_in, first_some}
use Rattle.bd_tree.specs.WellFormed.{are_distinct}
use Rattle.bd_tree.proofs.NodeLemmas.{Each, by_node, id_of-Step, id_of-Block, ids_of-Step, ids_of-Block}
use Rattle.bd_tree.proofs.TreeLemmas.{find_in-Step, find_in-Block}

abbrev pub one_if : Bool → ℕ
one_if b = cond b 1 0

-- how many times a number is in a list
abbrev pub times : ℕ → List ℕ → ℕ
times q [] = 0
times q (x ∷ xs) = one_if (eqb x q) + times q xs

few_if : (b : Bool) → one_if b ≤ 1
few_if true = omega arith
few_if false = omega arith

times-append : (q : ℕ) (xs ys : List ℕ) → times q (xs ++ ys) ≡ times q xs + times q ys
times-append q [] ys = omega arith
times-append q (x ∷ xs) ys = omega (arith, times-append q xs ys)

none_if : (b h : Bool) (n : ℕ) → (b || h) ≡ false → (h ≡ false → n ≡ 0) → one_if b + n ≡ 0
none_if true h n e f = absurd (cc)
none_if false h n e f = omega (arith, f e)

pub times_none : (q : ℕ) (xs : List ℕ) → has xs q ≡ false → times q xs ≡ 0
times_none q [] h = refl
times_none q (x ∷ xs) h = none_if (eqb x q) (has xs q) (times q xs) h (times_none q xs)

has_if : (b h : Bool) (n : ℕ) → one_if b + n ≡ 0 → (n ≡ 0 → h ≡ false) → (b || h) ≡ false
has_if true h n e f = absurd (omega arith)
has_if false h n e f = f (omega arith)

pub has_none : (q : ℕ) (xs : List ℕ) → times q xs ≡ 0 → has xs q ≡ false
has_none q [] e = refl
has_none q (x ∷ xs) e = has_if (eqb x q) (has xs q) (times q xs) e (has_none q xs)

pub not_true : (b : Bool) → not b ≡ true → b ≡ false
not_true true e = absurd (cc)
not_true false e = refl

once_if : (b : Bool) (n : ℕ) → n ≤ 1 → (b ≡ true → n ≡ 0) → one_if b + n ≤ 1
once_if true n le h = omega (arith, h refl)
once_if false n le h = omega arith

-- distinct numbers are in the list once at most, and the other way round
pub times_once : (q : ℕ) (xs : List ℕ) → are_distinct xs ≡ true → times q xs ≤ 1
times_once q [] d = omega arith
times_once q (x ∷ xs) d =
    let parts = and_parts (not (has xs x)) (are_distinct xs) d in
    once_if (eqb x q) (times q xs) (times_once q xs parts.1) (λ e. times_none q xs (ap (has xs) (sym (eqb-true x q e)) ∙ not_true (has xs x) parts.0))

pub distinct_if : (xs : List ℕ) → ((q : ℕ) → times q xs ≤ 1) → are_distinct xs ≡ true
distinct_if [] h = refl
distinct_if (x ∷ xs) h =
    let here : one_if (eqb x x) ≡ 1 = ap one_if (eq-eqb x x refl) in
    and_from _ _ (ap not (has_none x xs (omega (arith, h x, here)))) (distinct_if xs (λ q. omega (arith, h q)))

-- a number above all isn't in the list
pub times_above : (q : ℕ) (xs : List ℕ) → greatest xs < q → times q xs ≡ 0
times_above q [] lt = refl
times_above q (x ∷ xs) lt = omega (arith, times_above q xs (omega arith), ap one_if (ne_eqb x q (omega arith)))

module _ (q : ℕ) where
  abbrev pub times_in : Node → ℕ
  times_in n = times q (ids_of n)

  times-joined : (ns : List Node) → times q (joined (map ids_of ns)) ≡ total (map times_in ns)
  times-joined [] = refl
  times-joined (n ∷ ns) = times-append q (ids_of n) (joined (map ids_of ns)) ∙ ap (λ z. times_in n + z) (times-joined ns)

  pub times_in-Step : (id a : ℕ) → times_in (Step id a) ≡ one_if (eqb id q)
  times_in-Step id a = omega (arith, ap (times q) (ids_of-Step id a))

  pub times_in-Block : (id : ℕ) (kids : List Node) (order : List (ℕ × ℕ)) → times_in (Block id kids order) ≡ one_if (eqb id q) + total (map times_in kids)
  times_in-Block id kids order = ap (times q) (ids_of-Block id kids order) ∙ ap (λ z. one_if (eqb id q) + z) (times-joined kids)

-- sums over parts of a listing
module _ (g : Node → ℕ) where
  pub sums-append : (xs ys : List Node) → total (map g (xs ++ ys)) ≡ total (map g xs) + total (map g ys)
  sums-append [] ys = omega arith
  sums-append (x ∷ xs) ys = omega (arith, sums-append xs ys)

  pub sums-nodes : (ks : List (ℕ × Node)) → total (map g (map (λ (k : ℕ × Node). k.1) ks)) ≡ total (map (λ (k : ℕ × Node). g k.1) ks)
  sums-nodes [] = refl
  sums-nodes (k ∷ ks) = ap (λ z. g k.1 + z) (sums-nodes ks)

  pub sums-numbered : (m : ℕ) (ks : List Node) → total (map (λ (k : ℕ × Node). g k.1) (enumerate_from m ks)) ≡ total (map g ks)
  sums-numbered m [] = refl
  sums-numbered m (k ∷ ks) = ap (λ z. g k + z) (sums-numbered (m + 1) ks)

-- a bound that no number of a list reaches
pub greatest_below : (bound : ℕ) (xs : List ℕ) → 0 < bound → ((q : ℕ) → bound ≤ q → times q xs ≡ 0) → greatest xs < bound
greatest_below bound [] lt h = omega arith
greatest_below bound (x ∷ xs) lt h =
    let here : one_if (eqb x x) ≡ 1 = ap one_if (eq-eqb x x refl) in
    let rest : greatest xs < bound = greatest_below bound xs lt (λ q le. omega (arith, h q le)) in
    elim (cases_lt x bound) [ inl less ↦ omega (arith, less, rest) | inr le ↦ absurd (omega (arith, h x le, here)) ]

-- an id of the kids of a node that is found is one of the tree's ids, and no more often
module _ (q : ℕ) where
  abbrev HasOwnId : Node → Type 0
  HasOwnId n = one_if (eqb (id_of n) q) ≤ times_in q n

  has_own_id : (n : Node) → HasOwnId n
  has_own_id = by_node HasOwnId
      (λ id a. omega (arith, ap (λ z. one_if (eqb z q)) (id_of-Step id a), times_in-Step q id a))
      (λ id kids order e. omega (arith, ap (λ z. one_if (eqb z q)) (id_of-Block id kids order), times_in-Block q id kids order))

  pub own_ids : (kids : List Node) → times q (map id_of kids) ≤ total (map (times_in q) kids)
  own_ids [] = omega arith
  own_ids (k ∷ ks) = omega (arith, has_own_id k, own_ids ks)

  module _ (id : ℕ) where
    abbrev IsWithin : Node → Type 0
    IsWithin n = (m : Node) → find_in id n ≡ Some m → times_in q m ≤ times_in q n

    within_step : (own a : ℕ) → IsWithin (Step own a)
    within_step own a m e = elim (cases_eq own id) [
      | inl same ↦
          let is : Some (Step own a) ≡ Some m = sym (find_in-Step id own a ∙ cond-true _ _ _ (eq-eqb own id same)) ∙ e in
          let node : Step own a ≡ m = cc in
          omega (arith, ap (times_in q) node)
      | inr ne ↦
          let is : None ≡ Some m = sym (find_in-Step id own a ∙ cond-false _ _ _ (ne_eqb own id ne)) ∙ e in
          absurd (cc)
    ]

    within_first : (o : Option Node) (rest : List (Option Node)) (here later : ℕ) → ((m : Node) → o ≡ Some m → times_in q m ≤ here) → ((m : Node) → first_some rest ≡ Some m → times_in q m ≤ later) →
        (m : Node) → first_some (o ∷ rest) ≡ Some m → times_in q m ≤ here + later
    within_first None rest here later h hs m e = omega (arith, hs m e)
    within_first (Some n) rest here later h hs m e = omega (arith, h m e)

    within_kids : (kids : List Node) → Each IsWithin kids → (m : Node) → first_some (map (find_in id) kids) ≡ Some m → times_in q m ≤ total (map (times_in q) kids)
    within_kids [] e m is = absurd (cc)
    within_kids (k ∷ ks) e m is = within_first (find_in id k) (map (find_in id) ks) (times_in q k) (total (map (times_in q) ks)) e.0 (within_kids ks e.1) m is

    within_block : (own : ℕ) (kids : List Node) (order : List (ℕ × ℕ)) → Each IsWithin kids → IsWithin (Block own kids order)
    within_block own kids order h m e = elim (cases_eq own id) [
      | inl same ↦
          let is : Some (Block own kids order) ≡ Some m = sym (find_in-Block id own kids order ∙ cond-true _ _ _ (eq-eqb own id same)) ∙ e in
          let node : Block own kids order ≡ m = cc in
          omega (arith, ap (times_in q) node)
      | inr ne ↦
          let is : times_in q m ≤ total (map (times_in q) kids) = within_kids kids h m (sym (find_in-Block id own kids order ∙ cond-false _ _ _ (ne_eqb own id ne)) ∙ e) in
          omega (arith, is, times_in-Block q own kids order)
    ]

    found_within : (n : Node) → IsWithin n
    found_within = by_node IsWithin within_step within_block

pub kids_distinct : (root : Node) (id own : ℕ) (kids : List Node) (order : List (ℕ × ℕ)) → are_distinct (ids_of root) ≡ true → find_in id root ≡ Some (Block own kids order) → are_distinct (map id_of kids) ≡ true
kids_distinct root id own kids order d found = distinct_if (map id_of kids) (λ q.
    let inside : times_in q (Block own kids order) ≤ times_in q root = found_within q id root (Block own kids order) found in
    let once : times_in q root ≤ 1 = times_once q (ids_of root) d in
    omega (arith, inside, once, own_ids q kids, times_in-Block q own kids order))

some_if : (b h : Bool) (n : ℕ) → (b || h) ≡ true → (h ≡ true → 1 ≤ n) → 1 ≤ one_if b + n
some_if true h n e f = omega arith
some_if false h n e f = omega (arith, f e)

pub times_some : (q : ℕ) (xs : List ℕ) → has xs q ≡ true → 1 ≤ times q xs
times_some q [] h = absurd (cc)
times_some q (x ∷ xs) h = some_if (eqb x q) (has xs q) (times q xs) h (times_some q xs)
