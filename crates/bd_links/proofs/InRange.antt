-- Where the actions of a list are below a number, so are those of its chain.
use Rattle.std.proofs.Common.{◌≡◌, ℕ, ◌+◌, ◌<◌, Bool, true, List, [], ◌∷◌, length, map, nat_lt, refl, sym, ap, ◌∙◌, lt-ltb}
use Rattle.std.proofs.lemmas.Bool.{and_from}
use Rattle.std.specs.List.{list_all, AllByRecursion}
use Rattle.bd_base.specs.Pairs.{total_order}
use Rattle.bd_tree.specs.declared.node.Node.{Node, Step, Block}
use Rattle.bd_tree.specs.declared.node.Node.TheOpen.{Node-F}
use Rattle.bd_tree.specs.declared.node.Node.TheViews.{rolls-Step, rolls-Block}
use Rattle.bd_tree.specs.declared.node.Node.TheFolds.{fold-roll-Node}
use Rattle.bd_tree.specs.Chain.{chain_of, steps_from}
use Rattle.bd_links.specs.Sound.{are_below, below_step}

module _ (n : ℕ) where
  below-Step : (id a : ℕ) → are_below n (Step id a) ≡ nat_lt a n
  below-Step id a = ap (are_below n) (sym (rolls-Step id a)) ∙ fold-roll-Node Bool (below_step n) (Node-F.Step id a)

  below-Block : (id : ℕ) (kids : List Node) (order : List (ℕ × ℕ)) → are_below n (Block id kids order) ≡ list_all (λ b. b) (map (are_below n) kids)
  below-Block id kids order = ap (are_below n) (sym (rolls-Block id kids order)) ∙ fold-roll-Node Bool (below_step n) (Node-F.Block id kids order)

  steps_below : (m : ℕ) (list : List ℕ) → AllByRecursion (λ a. a < n) list → list_all (λ b. b) (map (are_below n) (steps_from m list)) ≡ true
  steps_below m [] h = refl
  steps_below m (a ∷ list) h = and_from _ _ (below-Step m a ∙ lt-ltb a n h.0) (steps_below (m + 1) list h.1)

  pub chain_below : (list : List ℕ) → AllByRecursion (λ a. a < n) list → are_below n (chain_of list) ≡ true
  chain_below list h = below-Block 0 (steps_from 1 list) (total_order (length list)) ∙ steps_below 1 list h
