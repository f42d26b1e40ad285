-- Bounds of counts: steps and levels are at most the nodes, and ordered pairs at most the square of the steps.
use Rattle.std.proofs.Common.{◌≡◌, ℕ, zero, suc, ◌+◌, ◌-◌, ◌*◌, ◌<◌, ◌≤◌, ◌^◌, max, true, ◌&&◌, List, [], ◌∷◌, ◌++◌, length, map, drop, get_or, sym, ap, ◌∙◌, subst, ◌⊎◌, inl, inr, arith}
use Rattle.std.specs.List.{list_all}
use Rattle.std.proofs.Math.Nat.{mul-le-mul_left}
use Rattle.std.proofs.lemmas.Nat.{mul-le}
use Rattle.std.proofs.lemmas.Bool.{and_parts, and_from, or_cases, both_ways, ltb-true, eqb-true}
use Rattle.std.proofs.lemmas.List.{drop_more, length-map}
use Rattle.bd_tree.specs.declared.node.Node.{Node, Block}
use Rattle.bd_tree.specs.Order.{is_less, is_rising, is_within, is_order}
use Rattle.bd_tree.specs.Tree.{greatest, total, joined, ids_of, depth_of, steps_of, nodes_of, pairs_of, products}
use Rattle.bd_tree.specs.WellFormed.{has_orders}
use Rattle.bd_tree.proofs.NodeLemmas.{Each, by_node, depth_of-Step, depth_of-Block, steps_of-Step, steps_of-Block, nodes_of-Step, nodes_of-Block, pairs_of-Step, pairs_of-Block, has_orders-Block}

abbrev HasFewSteps : Node → Type 0
HasFewSteps n = steps_of n ≤ nodes_of n

few_steps : (kids : List Node) → Each HasFewSteps kids → total (map steps_of kids) ≤ total (map nodes_of kids)
few_steps [] e = omega arith
few_steps (k ∷ ks) e = omega (arith, e.0, few_steps ks e.1)

pub steps_within : (n : Node) → steps_of n ≤ nodes_of n
steps_within = by_node HasFewSteps
    (λ id a. omega (arith, steps_of-Step id a, nodes_of-Step id a))
    (λ id kids order e. omega (arith, steps_of-Block id kids order, nodes_of-Block id kids order, few_steps kids e))

abbrev IsShallow : Node → Type 0
IsShallow n = depth_of n ≤ nodes_of n

shallow_kids : (kids : List Node) → Each IsShallow kids → greatest (map depth_of kids) ≤ total (map nodes_of kids)
shallow_kids [] e = omega arith
shallow_kids (k ∷ ks) e = omega (arith, e.0, shallow_kids ks e.1)

pub depth_within : (n : Node) → depth_of n ≤ nodes_of n
depth_within = by_node IsShallow
    (λ id a. omega (arith, depth_of-Step id a, nodes_of-Step id a))
    (λ id kids order e. omega (arith, depth_of-Block id kids order, nodes_of-Block id kids order, shallow_kids kids e))

-- the greatest of two lists
pub greatest-append : (xs ys : List ℕ) → greatest (xs ++ ys) ≡ max (greatest xs) (greatest ys)
greatest-append [] ys = omega arith
greatest-append (x ∷ xs) ys = omega (arith, greatest-append xs ys)

-- each number times the sum of all later ones
abbrev cross : List ℕ → ℕ
cross [] = 0
cross (x ∷ xs) = x * total xs + cross xs

abbrev squares : List ℕ → ℕ
squares [] = 0
squares (x ∷ xs) = x * x + squares xs

cross_within : (xs : List ℕ) → squares xs + cross xs + cross xs ≤ total xs * total xs
cross_within [] = omega arith
cross_within (x ∷ xs) = omega (arith, cross_within xs)

total-drop : (xs : List ℕ) (i : ℕ) → i < length xs → total (drop i xs) ≡ get_or xs i 0 + total (drop (i + 1) xs)
total-drop xs i lt = ap total (drop_more xs i 0 lt)

cross-drop : (xs : List ℕ) (i : ℕ) → i < length xs → cross (drop i xs) ≡ get_or xs i 0 * total (drop (i + 1) xs) + cross (drop (i + 1) xs)
cross-drop xs i lt = ap cross (drop_more xs i 0 lt)

total_falls : (xs : List ℕ) (i j : ℕ) → i ≤ j → total (drop j xs) ≤ total (drop i xs)
total_falls [] zero zero le = omega arith
total_falls [] zero (suc j) le = omega arith
total_falls [] (suc i) zero le = omega arith
total_falls [] (suc i) (suc j) le = omega arith
total_falls (x ∷ xs) zero zero le = omega arith
total_falls (x ∷ xs) zero (suc j) le = omega (arith, total_falls xs zero j (omega arith))
total_falls (x ∷ xs) (suc i) zero le = absurd (omega arith)
total_falls (x ∷ xs) (suc i) (suc j) le = total_falls xs i j (omega arith)

cross_falls : (xs : List ℕ) (i j : ℕ) → i ≤ j → cross (drop j xs) ≤ cross (drop i xs)
cross_falls [] zero zero le = omega arith
cross_falls [] zero (suc j) le = omega arith
cross_falls [] (suc i) zero le = omega arith
cross_falls [] (suc i) (suc j) le = omega arith
cross_falls (x ∷ xs) zero zero le = omega arith
cross_falls (x ∷ xs) zero (suc j) le = omega (arith, cross_falls xs zero j (omega arith))
cross_falls (x ∷ xs) (suc i) zero le = absurd (omega arith)
cross_falls (x ∷ xs) (suc i) (suc j) le = cross_falls xs i j (omega arith)

-- the first pair is (i, j) or a later one
abbrev StartsAt : ℕ → ℕ → List (ℕ × ℕ) → Type 0
StartsAt i j [] = Unit {0}
StartsAt i j (p ∷ ps) = (i < p.0) ⊎ ((i ≡ p.0) × (j ≤ p.1))

starts_later : (p : ℕ × ℕ) (ps : List (ℕ × ℕ)) → list_all (is_less p) ps ≡ true → StartsAt p.0 (p.1 + 1) ps
starts_later p [] a = tt
starts_later p (q ∷ ps) a = elim (or_cases _ _ (and_parts _ _ a).0) [
  | inl lt ↦ inl (ltb-true _ _ lt)
  | inr same ↦
      let parts = and_parts _ _ same in
      let up : p.1 < q.1 = ltb-true _ _ parts.1 in
      inr (eqb-true _ _ parts.0, omega arith)
]

module _ (s : List ℕ) where
  abbrev at_place : ℕ → ℕ
  at_place i = get_or s i 0

  abbrev room : ℕ → ℕ → ℕ
  room i j = at_place i * total (drop j s) + cross (drop (i + 1) s)

  room_falls : (i j a b : ℕ) → a < b → a < length s → (i < a) ⊎ ((i ≡ a) × (j ≤ b)) → room a b ≤ room i j
  room_falls i j a b lt below (inl up) =
      omega (arith, mul-le-mul_left (at_place a) (total_falls s (a + 1) b (omega arith)), cross-drop s a below, cross_falls s (i + 1) a (omega arith))
  room_falls i j a b lt below (inr same) =
      subst (λ z. room a b ≤ room z j) (sym same.0) (omega (arith, mul-le-mul_left (at_place a) (total_falls s j b same.1)))

  products_from : (order : List (ℕ × ℕ)) (i j : ℕ) → list_all (is_within (length s)) order ≡ true → is_rising order ≡ true → StartsAt i j order → products order s ≤ room i j
  products_from [] i j w r from = omega arith
  products_from (p ∷ ps) i j w r from =
      let ws = and_parts _ _ w in
      let rs = and_parts _ _ r in
      let pair = and_parts _ _ ws.0 in
      let up : p.0 < p.1 = ltb-true _ _ pair.0 in
      let below : p.1 < length s = ltb-true _ _ pair.1 in
      omega (
        arith,
        products_from ps p.0 (p.1 + 1) ws.1 rs.1 (starts_later p ps rs.0),
        ap (λ z. at_place p.0 * z) (total-drop s p.1 below),
        room_falls i j p.0 p.1 up (omega arith) from,
      )

  starts : (n : ℕ) (order : List (ℕ × ℕ)) → list_all (is_within n) order ≡ true → StartsAt 0 1 order
  starts n [] w = tt
  starts n (p ∷ ps) w =
      let up : p.0 < p.1 = ltb-true _ _ (and_parts _ _ (and_parts _ _ w).0).0 in
      elim (Rattle.std.proofs.lemmas.Bool.cases_lt 0 p.0) [ inl lt ↦ inl lt | inr ge ↦ inr (omega (arith, ge), omega (arith, up)) ]

room_whole : (s : List ℕ) → room s 0 1 ≤ cross s
room_whole [] = omega arith
room_whole (x ∷ s) = omega arith

products_within : (s : List ℕ) (order : List (ℕ × ℕ)) → is_order (length s) order ≡ true → squares s + products order s + products order s ≤ total s * total s
products_within s order o =
    let parts = and_parts _ _ (and_parts _ _ o).0 in
    omega (arith, products_from s order 0 1 parts.0 parts.1 (starts s (length s) order parts.0), room_whole s, cross_within s)

-- of all pairs of steps at most one half is ordered
pub products_half : (s : List ℕ) (order : List (ℕ × ℕ)) → is_order (length s) order ≡ true → total s < 2 ^ 32 → products order s ≤ 2 ^ 63
products_half s order o few =
    let low : total s ≤ 2 ^ 32 - 1 = omega arith in
    omega (arith, products_within s order o, mul-le (total s) (total s) (2 ^ 32 - 1) (2 ^ 32 - 1) low low)

abbrev HasFewPairs : Node → Type 0
HasFewPairs n = has_orders n ≡ true → pairs_of n ≤ steps_of n * steps_of n

few_pairs : (kids : List Node) → Each HasFewPairs kids → list_all (λ b. b) (map has_orders kids) ≡ true → total (map pairs_of kids) ≤ squares (map steps_of kids)
few_pairs [] e h = omega arith
few_pairs (k ∷ ks) e h = let parts = and_parts _ _ h in omega (arith, e.0 parts.0, few_pairs ks e.1 parts.1)

pub pairs_within : (n : Node) → has_orders n ≡ true → pairs_of n ≤ steps_of n * steps_of n
pairs_within = by_node HasFewPairs
    (λ id a h. omega (arith, pairs_of-Step id a))
    (λ id kids order e h.
    let parts = and_parts _ _ (sym (has_orders-Block id kids order) ∙ h) in
    let o : is_order (length (map steps_of kids)) order ≡ true = ap (λ n. is_order n order) (length-map kids steps_of ∙ sym (length-map kids has_orders)) ∙ parts.1 in
    rw (steps_of-Block id kids order) (omega (arith, pairs_of-Block id kids order, few_pairs kids e parts.0, products_within (map steps_of kids) order o)))

pub pairs_fit : (n : Node) → has_orders n ≡ true → nodes_of n < 2 ^ 32 → pairs_of n < 2 ^ 64
pairs_fit n h few =
    let small : steps_of n ≤ 2 ^ 32 - 1 = omega (arith, steps_within n) in
    omega (arith, pairs_within n h, mul-le (steps_of n) (steps_of n) (2 ^ 32 - 1) (2 ^ 32 - 1) small small)

-- the first pair of what is left is in range
pub first_within : (n : ℕ) (order rest : List (ℕ × ℕ)) (p : ℕ × ℕ) → list_all (is_within n) order ≡ true → order ≡ p ∷ rest → (p.0 < n) × (p.1 < n)
first_within n order rest p w is =
    let pair = and_parts _ _ (and_parts _ _ (sym (ap (list_all (is_within n)) is) ∙ w)).0 in
    let up : p.0 < p.1 = ltb-true _ _ pair.0 in
    let below : p.1 < n = ltb-true _ _ pair.1 in
    (omega arith, below)

-- a kid has no more steps than all kids
pub steps_at : (kids : List Node) (i : ℕ) (k d : Node) → i < length kids → k ≡ get_or kids i d → steps_of k ≤ total (map steps_of kids)
steps_at [] i k d lt is = absurd (omega arith)
steps_at (x ∷ xs) zero k d lt is = omega (arith, ap steps_of is)
steps_at (x ∷ xs) (suc i) k d lt is = omega (arith, steps_at xs i k d (omega arith) is)

-- a block, by what a node is, and the slice of its kids
module _ (n : Node) (id : ℕ) (kids ks : List Node) (order : List (ℕ × ℕ)) (is : n ≡ Block id kids order) (same : ks ≡ kids) where
  pub block_few : nodes_of n < 2 ^ 32 → total (map steps_of ks) < 2 ^ 32
  block_few few = omega (arith, few, steps_within n, ap steps_of is ∙ steps_of-Block id kids order, ap (λ z. total (map steps_of z)) same)

  block_orders : has_orders n ≡ true → (list_all (λ b. b) (map has_orders kids) && is_order (length (map has_orders kids)) order) ≡ true
  block_orders h = sym (ap has_orders is ∙ has_orders-Block id kids order) ∙ h

  pub block_ordered : has_orders n ≡ true → list_all (λ b. b) (map has_orders ks) ≡ true
  block_ordered h = ap (λ z. list_all (λ b. b) (map has_orders z)) same ∙ (and_parts (list_all (λ b. b) (map has_orders kids)) (is_order (length (map has_orders kids)) order) (block_orders h)).0

  pub block_order : has_orders n ≡ true → is_order (length ks) order ≡ true
  block_order h =
      ap (λ z. is_order (length z) order) same
      ∙ ap (λ z. is_order z order) (sym (length-map kids has_orders))
      ∙ (and_parts (list_all (λ b. b) (map has_orders kids)) (is_order (length (map has_orders kids)) order) (block_orders h)).1

  pub block_pairs : pairs_of n ≡ products order (map steps_of ks) + total (map pairs_of ks)
  block_pairs =
      let sum : pairs_of n ≡ total (map pairs_of kids) + products order (map steps_of kids) = ap pairs_of is ∙ pairs_of-Block id kids order in
      omega (arith, sum, ap (λ z. total (map pairs_of z)) same, ap (λ z. products order (map steps_of z)) same)

  pub block_nodes : nodes_of n < 2 ^ 32 → total (map nodes_of ks) < 2 ^ 32
  block_nodes few = omega (arith, few, ap nodes_of is ∙ nodes_of-Block id kids order, ap (λ z. total (map nodes_of z)) same)

module _ (kids : List Node) (i : ℕ) (k : Node) (lt : i < length kids) (is : k ≡ get_or kids i k) where
  first_left : drop i kids ≡ k ∷ drop (i + 1) kids
  first_left = drop_more kids i k lt ∙ ap (λ z. z ∷ drop (i + 1) kids) (sym is)

  pub pairs_left : total (map pairs_of (drop i kids)) ≡ pairs_of k + total (map pairs_of (drop (i + 1) kids))
  pairs_left = ap (λ z. total (map pairs_of z)) first_left

  pub top_left : greatest (joined (map ids_of (drop i kids))) ≡ max (greatest (ids_of k)) (greatest (joined (map ids_of (drop (i + 1) kids))))
  top_left = ap (λ z. greatest (joined (map ids_of z))) first_left ∙ greatest-append (ids_of k) (joined (map ids_of (drop (i + 1) kids)))

pub has_nodes : (n : Node) → 0 < nodes_of n
has_nodes = by_node (λ n. 0 < nodes_of n) (λ id a. omega (arith, nodes_of-Step id a)) (λ id kids order e. omega (arith, nodes_of-Block id kids order))

count_within : (kids : List Node) → length kids ≤ total (map nodes_of kids)
count_within [] = omega arith
count_within (k ∷ ks) = omega (arith, has_nodes k, count_within ks)

-- a block has fewer kids than nodes
pub kids_within : (n : Node) (id : ℕ) (kids : List Node) (order : List (ℕ × ℕ)) → n ≡ Block id kids order → length kids < nodes_of n
kids_within n id kids order is = omega (arith, ap nodes_of is ∙ nodes_of-Block id kids order, count_within kids)
