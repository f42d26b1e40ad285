-- Kids of a block of a tree with few nodes are few, and an order of few kids has few pairs.
use Rattle.std.proofs.Common.{◌≡◌, ℕ, suc, zero, ◌+◌, ◌*◌, ◌<◌, ◌≤◌, ◌^◌, Bool, true, false, not, ◌&&◌, eqb, cond, get_or, List, [], ◌∷◌, length, map, Option, Some, None, refl, sym, ap, ◌∙◌, subst, inl, inr, arith}
use Rattle.std.specs.List.{list_all}
use Rattle.std.specs.Option.{option_map_or}
use Rattle.std.proofs.lemmas.Bool.{and_parts, and_from, both_ways, cases_eq, eq-eqb, ne_eqb, ltb-true, or_left, or_right}
use Rattle.std.proofs.lemmas.List.{length-map}
use Rattle.bd_base.specs.Facts.{has, remove_fact}
use Rattle.bd_base.proofs.FactLemmas.{has-remove_fact}
use Rattle.bd_merge.proofs.CountLemmas.{block_few, block_nodes}
use Rattle.bd_shape.specs.Kids.{kids_in_layer, kid_ids, kids_at}
use Rattle.bd_tree.specs.Order.{is_order, is_within}
use Rattle.bd_tree.specs.Tree.{id_of, find_in, first_some, nodes_of, products, steps_of, total}
use Rattle.bd_tree.specs.WellFormed.{are_distinct, has_orders}
use Rattle.bd_tree.specs.declared.node.Node.{Node, Step, Block}
use Rattle.bd_tree.specs.declared.node.Node.TheViews.{outs-Step, outs-Block}
use Rattle.bd_tree.proofs.BoundLemmas.{pairs_within}
use Rattle.bd_tree.proofs.NodeLemmas.{Each, by_node, has_orders-Step, has_orders-Block, pairs_of-Block, steps_of-Step, steps_of-Block}
use Rattle.bd_tree.proofs.TreeLemmas.{find_in-Step, find_in-Block}
use Rattle.plan_core.proofs.MeasureLemmas.{is_there_at_all, some_same}

-- distinct numbers that all stand in a list are no more than it has

removed_within : (x : ℕ) (ys : List ℕ) → length (remove_fact x ys) ≤ length ys
removed_within x [] = omega arith
removed_within x (y ∷ ys) = elim (cases_eq y x) [
  | inl e ↦ rw (eq-eqb y x e) (omega (arith, removed_within x ys))
  | inr ne ↦ rw (ne_eqb y x ne) (omega (arith, removed_within x ys))
]

removed_less : (x : ℕ) (ys : List ℕ) → has ys x ≡ true → length (remove_fact x ys) + 1 ≤ length ys
removed_less x [] h = absurd (both_ways false refl h)
removed_less x (y ∷ ys) h = elim (cases_eq y x) [
  | inl e ↦ rw (eq-eqb y x e) (omega (arith, removed_within x ys))
  | inr ne ↦ rw (ne_eqb y x ne) (omega (arith, removed_less x ys (rw (ne_eqb y x ne) at h)))
]

pub among : (xs ys : List ℕ) → are_distinct xs ≡ true → ((q : ℕ) → has xs q ≡ true → has ys q ≡ true) → length xs ≤ length ys
among [] ys d h = omega arith
among (x ∷ xs) ys d h = omega (arith, removed_less x ys (h x (or_left _ _ (eq-eqb x x refl))), among xs (remove_fact x ys) (and_parts _ _ d).1 rest)
  where
    apart : (q : ℕ) → has xs q ≡ true → eqb x q ≡ false
    apart q i = elim (cases_eq x q) [
      | inl e ↦ absurd (not_there (has xs x) (and_parts _ _ d).0 (subst (λ z. has xs z ≡ true) (sym e) i))
      | inr ne ↦ ne_eqb x q ne
    ]
      where
        not_there : (b : Bool) → not b ≡ true → b ≡ true → ⊥
        not_there true n t = both_ways false refl n
        not_there false n t = both_ways false refl t

    rest : (q : ℕ) → has xs q ≡ true → has (remove_fact x ys) q ≡ true
    rest q i = has-remove_fact x ys q ∙ ap (λ b. not b && has ys q) (apart q i) ∙ h q (or_right _ _ i)

-- a block of a tree with few nodes has few kids

module _ (block : ℕ) where
  abbrev HasFew : Node → Type 0
  HasFew n = nodes_of n < 2 ^ 32 → (m : Node) → find_in block n ≡ Some m → length (kid_ids m) < 2 ^ 32

  step_few : (own a : ℕ) → HasFew (Step own a)
  step_few own a few m f = at (eqb own block) (sym (find_in-Step block own a) ∙ f)
    where
      at : (b : Bool) → cond b (Some (Step own a)) None ≡ Some m → length (kid_ids m) < 2 ^ 32
      at true g = omega (arith, ap (λ z. length (kid_ids z)) (sym (some_same _ _ g)), ap (λ z. length (kids_in_layer z)) (outs-Step own a))
      at false g = absurd (is_there_at_all _ g)

  kids_few : (ks : List Node) → Each HasFew ks → total (map nodes_of ks) < 2 ^ 32 → (m : Node) → first_some (map (find_in block) ks) ≡ Some m → length (kid_ids m) < 2 ^ 32
  kids_few [] e few m f = absurd (is_there_at_all _ f)
  kids_few (k ∷ ks) e few m f = at (find_in block k) refl f (kids_few ks e.1 (omega (arith, few)) m)
    where
      at : (o : Option Node) → find_in block k ≡ o → first_some (o ∷ map (find_in block) ks) ≡ Some m → (first_some (map (find_in block) ks) ≡ Some m → length (kid_ids m) < 2 ^ 32) → length (kid_ids m) < 2 ^ 32
      at None is g rest = rest g
      at (Some n) is g rest = e.0 (omega (arith, few)) m (is ∙ g)

  block_has_few : (own : ℕ) (kids : List Node) (order : List (ℕ × ℕ)) → Each HasFew kids → HasFew (Block own kids order)
  block_has_few own kids order e few m f = at (eqb own block) (sym (find_in-Block block own kids order) ∙ f)
    where
      at : (b : Bool) → cond b (Some (Block own kids order)) (first_some (map (find_in block) kids)) ≡ Some m → length (kid_ids m) < 2 ^ 32
      at true g =
          omega (
            arith,
            ap (λ z. length (kid_ids z)) (sym (some_same _ _ g)),
            ap (λ z. length (kids_in_layer z)) (outs-Block own kids order),
            length-map kids id_of,
            block_few (Block own kids order) own kids kids order refl refl 0 (omega (arith, few)),
          )
      at false g = kids_few kids e (omega (arith, block_nodes (Block own kids order) own kids kids order refl refl 0 (omega (arith, few)))) m g

  has_few : (n : Node) → HasFew n
  has_few = by_node HasFew step_few block_has_few

  pub few_kids_at : (root : Node) → nodes_of root < 2 ^ 32 → length (kids_at block root) < 2 ^ 32
  few_kids_at root few = at (find_in block root) refl
    where
      at : (o : Option Node) → find_in block root ≡ o → length (option_map_or kid_ids o []) < 2 ^ 32
      at None is = omega arith
      at (Some m) is = has_few root few m is

-- an order of few kids has few pairs

abbrev steps : ℕ → List Node
steps zero = []
steps (suc n) = Step 0 0 ∷ steps n

steps_long : (n : ℕ) → length (steps n) ≡ n
steps_long zero = refl
steps_long (suc n) = omega (arith, steps_long n)

steps_ordered : (n : ℕ) → list_all (λ k. k) (map has_orders (steps n)) ≡ true
steps_ordered zero = refl
steps_ordered (suc n) = and_from _ _ (has_orders-Step 0 0) (steps_ordered n)

steps_counted : (n : ℕ) → total (map steps_of (steps n)) ≡ n
steps_counted zero = refl
steps_counted (suc n) = omega (arith, steps_of-Step 0 0, steps_counted n)

one_step : (n i : ℕ) → i < n → get_or (map steps_of (steps n)) i 0 ≡ 1
one_step zero i lt = absurd (omega (arith, lt))
one_step (suc n) zero lt = steps_of-Step 0 0
one_step (suc n) (suc i) lt = one_step n i (omega (arith, lt))

fewer_products : (n : ℕ) (order : List (ℕ × ℕ)) → list_all (is_within n) order ≡ true → length order ≤ products order (map steps_of (steps n))
fewer_products n [] w = omega arith
fewer_products n (p ∷ ps) w =
    let parts = and_parts (is_within n p) (list_all (is_within n) ps) w in
    let pair = and_parts _ _ parts.0 in
    let up : p.0 < p.1 = ltb-true _ _ pair.0 in
    let below : p.1 < n = ltb-true _ _ pair.1 in
    let one : get_or (map steps_of (steps n)) p.0 0 * get_or (map steps_of (steps n)) p.1 0 ≡ 1 =
    ap (λ z. z * get_or (map steps_of (steps n)) p.1 0) (one_step n p.0 (omega (arith, up, below))) ∙ ap (λ z. 1 * z) (one_step n p.1 below) in
    omega (arith, one, fewer_products n ps parts.1)

pub few_pairs : (n : ℕ) (order : List (ℕ × ℕ)) → is_order n order ≡ true → length order ≤ n * n
few_pairs n order o =
    let within : list_all (is_within n) order ≡ true = (and_parts _ _ (and_parts _ _ o).0).0 in
    let ordered : has_orders (Block 0 (steps n) order) ≡ true =
    has_orders-Block 0 (steps n) order ∙ and_from _ _ (steps_ordered n) (ap (λ m. is_order m order) (length-map (steps n) has_orders ∙ steps_long n) ∙ o) in
    let counted : steps_of (Block 0 (steps n) order) ≡ n = steps_of-Block 0 (steps n) order ∙ steps_counted n in
    omega (arith, fewer_products n order within, pairs_of-Block 0 (steps n) order, pairs_within (Block 0 (steps n) order) ordered, ap (λ z. z * z) counted)
