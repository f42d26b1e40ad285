-- The merged tree is well formed.
use Rattle.std.proofs.Common.{◌≡◌, ℕ, ◌+◌, ◌<◌, Bool, true, false, eqb, cond, List, [], ◌∷◌, ◌++◌, length, map, filter, refl, sym, ap, ◌∙◌, inl, inr, length-append, arith}
use Rattle.std.specs.List.{list_all, enumerate_from}
use Rattle.std.proofs.lemmas.Bool.{and_parts, and_from, cond-true, cond-false, eq-eqb, cases_eq, ne_eqb}
use Rattle.std.proofs.lemmas.List.{length-map}
use Rattle.bd_tree.specs.declared.node.Node.{Node, Block}
use Rattle.bd_tree.specs.Chain.{steps_from}
use Rattle.bd_base.specs.Pairs.{is_closed}
use Rattle.bd_tree.specs.Order.{is_order}
use Rattle.bd_tree.specs.Tree.{ids_of, greatest}
use Rattle.bd_tree.specs.WellFormed.{is_root, has_orders, IsWellFormed}
use Rattle.bd_tree.proofs.NodeLemmas.{Each, by_node, is_root-Block, has_orders-Step, has_orders-Block}
use Rattle.bd_merge.proofs.IdLemmas.{merged_distinct}
use Rattle.bd_merge.proofs.KeptLemmas.{merged_is_order}
use Rattle.bd_merge.proofs.MergeLemmas.{merged_here, merged-Step, merged-Block}
use Rattle.bd_merge.specs.Merged.{fronts, backs, merged_kids, merged_places, merged_order, merged_block, merged}
use Rattle.bd_merge.specs.declared.merging.Place.{Place}
use Rattle.bd_merge.specs.declared.merging.Place.TheVariants.{Front, New, Back}
use Rattle.bd_merge.specs.declared.window.Window.{Window}

abbrev all_ordered : List Node → Bool
all_ordered ns = list_all (λ b. b) (map has_orders ns)

ordered-append : (xs ys : List Node) → all_ordered xs ≡ true → all_ordered ys ≡ true → all_ordered (xs ++ ys) ≡ true
ordered-append [] ys a b = b
ordered-append (x ∷ xs) ys a b = let p = and_parts (has_orders x) (all_ordered xs) a in and_from _ _ p.0 (ordered-append xs ys p.1 b)

ordered_steps : (m : ℕ) (list : List ℕ) → all_ordered (steps_from m list) ≡ true
ordered_steps m [] = refl
ordered_steps m (a ∷ list) = and_from _ _ (has_orders-Step m a) (ordered_steps (m + 1) list)

abbrev nodes : List (ℕ × Node) → List Node
nodes ks = map (λ (k : ℕ × Node). k.1) ks

ordered_if : (b : Bool) (k : ℕ × Node) (ks : List (ℕ × Node)) → has_orders k.1 ≡ true → all_ordered (nodes ks) ≡ true → all_ordered (nodes (cond b (k ∷ ks) ks)) ≡ true
ordered_if true k ks h a = and_from _ _ h a
ordered_if false k ks h a = a

ordered_part : (t : ℕ × Node → Bool) (m : ℕ) (kids : List Node) → all_ordered kids ≡ true → all_ordered (nodes (filter t (enumerate_from m kids))) ≡ true
ordered_part t m [] a = refl
ordered_part t m (k ∷ ks) a = let p = and_parts (has_orders k) (all_ordered ks) a in ordered_if (t (m, k)) (m, k) (filter t (enumerate_from (m + 1) ks)) p.0 (ordered_part t (m + 1) ks p.1)

length-steps_from : (m : ℕ) (list : List ℕ) → length (steps_from m list) ≡ length list
length-steps_from m [] = refl
length-steps_from m (a ∷ list) = omega (arith, length-steps_from (m + 1) list)

module _ (window : Window) (list : List ℕ) (next : ℕ) where
  abbrev new_kids : List (ℕ × ℕ) → List Node → List Node
  new_kids order kids = merged_kids window list next order (enumerate_from 0 kids)

  abbrev new_places : List (ℕ × ℕ) → List Node → List Place
  new_places order kids = merged_places window list order (enumerate_from 0 kids)

  as_many : (order : List (ℕ × ℕ)) (kids : List Node) → length (new_kids order kids) ≡ length (new_places order kids)
  as_many order kids =
      let all = enumerate_from 0 kids in
      let f = fronts window order all in
      let b = backs window order all in
      let s = steps_from next list in
      let fp : List Place = map (λ (k : ℕ × Node). Front k.0) f in
      let np : List Place = map (λ (a : ℕ). New) list in
      let bp : List Place = map (λ (k : ℕ × Node). Back k.0) b in
      let kids_one : length ((nodes f ++ s) ++ nodes b) ≡ length (nodes f ++ s) + length (nodes b) = length-append (nodes f ++ s) (nodes b) in
      let kids_two : length (nodes f ++ s) ≡ length (nodes f) + length s = length-append (nodes f) s in
      let one : length ((fp ++ np) ++ bp) ≡ length (fp ++ np) + length bp = length-append (fp ++ np) bp in
      let two : length (fp ++ np) ≡ length fp + length np = length-append fp np in
      let f_one : length (nodes f) ≡ length f = length-map f (λ (k : ℕ × Node). k.1) in
      let f_two : length fp ≡ length f = length-map f (λ (k : ℕ × Node). Front k.0) in
      let b_one : length (nodes b) ≡ length b = length-map b (λ (k : ℕ × Node). k.1) in
      let b_two : length bp ≡ length b = length-map b (λ (k : ℕ × Node). Back k.0) in
      let n_one : length s ≡ length list = length-steps_from next list in
      let n_two : length np ≡ length list = length-map list (λ (a : ℕ). New) in
      let goal : length ((nodes f ++ s) ++ nodes b) ≡ length ((fp ++ np) ++ bp) = omega (arith, kids_one, kids_two, one, two, f_one, f_two, b_one, b_two, n_one, n_two) in
      goal

  block_ordered : (own : ℕ) (kids : List Node) (order : List (ℕ × ℕ)) → has_orders (Block own kids order) ≡ true → has_orders (merged_block window list next own kids order) ≡ true
  block_ordered own kids order h =
      let parts = and_parts (all_ordered kids) (is_order (length (map has_orders kids)) order) (sym (has_orders-Block own kids order) ∙ h) in
      let all = enumerate_from 0 kids in
      let closed : is_closed order ≡ true = (and_parts _ (is_closed order) parts.1).1 in
      has_orders-Block own (new_kids order kids) (merged_order order (new_places order kids))
      ∙ and_from _ _
      (ordered-append (nodes (fronts window order all) ++ steps_from next list) (nodes (backs window order all))
      (ordered-append (nodes (fronts window order all)) (steps_from next list) (ordered_part (Rattle.bd_merge.specs.Merged.is_front window order all) 0 kids parts.0) (ordered_steps next list))
      (ordered_part (Rattle.bd_merge.specs.Merged.is_back window order all) 0 kids parts.0))
      (ap (λ z. is_order z (merged_order order (new_places order kids))) (length-map (new_kids order kids) has_orders ∙ as_many order kids) ∙ merged_is_order order closed (new_places order kids))

  abbrev StaysOrdered : Node → Type 0
  StaysOrdered n = has_orders n ≡ true → has_orders (merged_here window list next n) ≡ true

  kids_stay : (kids : List Node) → Each StaysOrdered kids → all_ordered kids ≡ true → all_ordered (map (merged_here window list next) kids) ≡ true
  kids_stay [] e a = refl
  kids_stay (k ∷ ks) e a = let p = and_parts (has_orders k) (all_ordered ks) a in and_from _ _ (e.0 p.0) (kids_stay ks e.1 p.1)

  block_stays : (own : ℕ) (kids : List Node) (order : List (ℕ × ℕ)) → Each StaysOrdered kids → StaysOrdered (Block own kids order)
  block_stays own kids order e h = elim (cases_eq own window.block) [
    | inl same ↦ ap has_orders (merged-Block window list next own kids order ∙ cond-true _ _ _ (eq-eqb own window.block same)) ∙ block_ordered own kids order h
    | inr ne ↦
        let parts = and_parts (all_ordered kids) (is_order (length (map has_orders kids)) order) (sym (has_orders-Block own kids order) ∙ h) in
        let many : length (map has_orders (map (merged_here window list next) kids)) ≡ length (map has_orders kids) = length-map (map (merged_here window list next) kids) has_orders ∙ length-map kids (merged_here window list next) ∙ sym (length-map kids has_orders) in
        ap has_orders (merged-Block window list next own kids order ∙ cond-false _ _ _ (ne_eqb own window.block ne))
        ∙ has_orders-Block own (map (merged_here window list next) kids) order
        ∙ and_from _ _ (kids_stay kids e parts.0) (ap (λ z. is_order z order) many ∙ parts.1)
  ]

  stays_ordered : (n : Node) → StaysOrdered n
  stays_ordered = by_node StaysOrdered (λ own a h. ap has_orders (merged-Step window list next own a) ∙ h) block_stays

  abbrev StaysRoot : Node → Type 0
  StaysRoot n = is_root n ≡ true → is_root (merged_here window list next n) ≡ true

  block_root : (own : ℕ) (kids : List Node) (order : List (ℕ × ℕ)) → Each StaysRoot kids → StaysRoot (Block own kids order)
  block_root own kids order e h =
      let zero : eqb own 0 ≡ true = sym (is_root-Block own kids order) ∙ h in
      elim (cases_eq own window.block) [
        | inl same ↦ ap is_root (merged-Block window list next own kids order ∙ cond-true _ _ _ (eq-eqb own window.block same)) ∙ is_root-Block own (new_kids order kids) (merged_order order (new_places order kids)) ∙ zero
        | inr ne ↦ ap is_root (merged-Block window list next own kids order ∙ cond-false _ _ _ (ne_eqb own window.block ne)) ∙ is_root-Block own (map (merged_here window list next) kids) order ∙ zero
      ]

  stays_root : (n : Node) → StaysRoot n
  stays_root = by_node StaysRoot (λ own a h. ap is_root (merged-Step window list next own a) ∙ h) block_root

pub merged_well_formed : (window : Window) (list : List ℕ) (next : ℕ) (root : Node) → IsWellFormed root → greatest (ids_of root) < next → IsWellFormed (merged root window list next)
merged_well_formed window list next root well fresh = record {
  rooted = stays_root window list next root well.rooted;
  distinct = merged_distinct window list next root well.distinct fresh;
  orders = stays_ordered window list next root well.orders;
}
