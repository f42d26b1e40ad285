-- The listed linearisation is one, where each order is one.
use Rattle.std.proofs.Common.{◌≡◌, ℕ, ◌+◌, ◌≤◌, true, not, List, [], ◌∷◌, map, refl, sym, ap, ◌∙◌, subst, arith}
use Rattle.std.specs.List.{list_all, enumerate_from}
use Rattle.std.proofs.lemmas.Bool.{and_parts, and_from}
use Rattle.bd_tree.specs.declared.node.Node.{Node, Step, Block}
use Rattle.bd_tree.specs.declared.node.Node.TheViews.{outs-Step, outs-Block}
use Rattle.bd_tree.specs.Linearisation.{IsFirst, IsLinearisation, LinearisesKids, of_step, of_block, no_kid, next_kid}
use Rattle.bd_tree.specs.Order.{is_order}
use Rattle.bd_tree.specs.Tree.{listed_of, joined}
use Rattle.bd_tree.specs.WellFormed.{has_orders}
use Rattle.bd_tree.proofs.NodeLemmas.{Each, by_node, listed_of-Step, listed_of-Block, has_orders-Block}
use Rattle.bd_tree.proofs.OrderLemmas.{not_before}

abbrev IsListed : Node → Type 0
IsListed n = has_orders n ≡ true → IsLinearisation n (listed_of n)

module _ (n : ℕ) (order : List (ℕ × ℕ)) (o : is_order n order ≡ true) where
  first_from : (j m : ℕ) (kids : List Node) → j ≤ m → IsFirst order j (enumerate_from m kids)
  first_from j m [] le = refl
  first_from j m (k ∷ ks) le = and_from _ _ (ap not (not_before n order m j o le)) (first_from j (m + 1) ks (omega arith))

  kids_listed : (m : ℕ) (ks : List Node) → Each IsListed ks → list_all (λ b. b) (map has_orders ks) ≡ true → LinearisesKids order (enumerate_from m ks) (joined (map listed_of ks))
  kids_listed m [] e a = no_kid
  kids_listed m (k ∷ ks) e a =
      let parts = and_parts (has_orders k) _ a in
      next_kid [] (enumerate_from (m + 1) ks) (m, k) (listed_of k) _ refl
      (first_from m m (k ∷ ks) (omega arith)) (e.0 parts.0) (kids_listed (m + 1) ks e.1 parts.1) refl

pub listed_linearises : (n : Node) → has_orders n ≡ true → IsLinearisation n (listed_of n)
listed_linearises = by_node IsListed
    (λ id a h. subst (IsLinearisation (Step id a)) (sym (listed_of-Step id a)) (of_step id a (outs-Step id a)))
    (λ id kids order e h.
    let parts = and_parts _ _ (sym (has_orders-Block id kids order) ∙ h) in
    subst (IsLinearisation (Block id kids order)) (sym (listed_of-Block id kids order))
    (of_block id kids order (outs-Block id kids order) (kids_listed _ order parts.1 0 kids e parts.0)))
