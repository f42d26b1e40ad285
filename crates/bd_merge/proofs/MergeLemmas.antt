-- What `merged` gives at a step and at a block.
use Rattle.std.proofs.Common.{◌≡◌, ℕ, true, false, eqb, cond, List, [], ◌∷◌, map, refl, sym, ap, ◌∙◌}
use Rattle.std.proofs.lemmas.Bool.{cond-true, cond-false, eqb-true}
use Rattle.bd_tree.specs.declared.node.Node.{Node, Step, Block}
use Rattle.bd_tree.specs.declared.node.Node.TheOpen.{Node-F}
use Rattle.bd_tree.specs.declared.node.Node.TheViews.{rolls-Step, rolls-Block}
use Rattle.bd_tree.specs.declared.node.Node.TheFolds.{para-roll-Node}
use Rattle.bd_merge.specs.Merged.{merge_step, merged_block, merged}
use Rattle.bd_merge.specs.declared.window.Window.{Window}

module _ (window : Window) (list : List ℕ) (next : ℕ) where
  abbrev pub merged_here : Node → Node
  merged_here n = merged n window list next

  pub merged-Step : (own a : ℕ) → merged_here (Step own a) ≡ Step own a
  merged-Step own a = ap merged_here (sym (rolls-Step own a)) ∙ para-roll-Node Node (merge_step window list next) (Node-F.Step own a)

  firsts : (kids : List Node) → map (λ (k : Node × Node). k.0) (map (λ (k : Node). (k, merged_here k)) kids) ≡ kids
  firsts [] = refl
  firsts (k ∷ ks) = ap (λ z. k ∷ z) (firsts ks)

  seconds : (kids : List Node) → map (λ (k : Node × Node). k.1) (map (λ (k : Node). (k, merged_here k)) kids) ≡ map merged_here kids
  seconds [] = refl
  seconds (k ∷ ks) = ap (λ z. merged_here k ∷ z) (seconds ks)

  pub merged-Block : (own : ℕ) (kids : List Node) (order : List (ℕ × ℕ)) → merged_here (Block own kids order) ≡ cond (eqb own window.block) (merged_block window list next own kids order) (Block own (map merged_here kids) order)
  merged-Block own kids order =
      ap merged_here (sym (rolls-Block own kids order))
      ∙ para-roll-Node Node (merge_step window list next) (Node-F.Block own kids order)
      ∙ ap (λ (z : List Node). cond (eqb own window.block) (merged_block window list next own z order) (Block own (map (λ (k : Node × Node). k.1) (map (λ (k : Node). (k, merged_here k)) kids)) order)) (firsts kids)
      ∙ ap (λ (z : List Node). cond (eqb own window.block) (merged_block window list next own kids order) (Block own z order)) (seconds kids)

  -- by what the node is
  pub of_step : (n : Node) (own a : ℕ) → n ≡ Step own a → Step own a ≡ merged_here n
  of_step n own a is = sym (ap merged_here is ∙ merged-Step own a)

  module _ (n : Node) (own : ℕ) (kids ks : List Node) (order : List (ℕ × ℕ)) (is : n ≡ Block own kids order) (same : ks ≡ kids) where
    pub of_window_block : eqb own window.block ≡ true → merged_block window list next window.block ks order ≡ merged_here n
    of_window_block e =
        ap (λ z. merged_block window list next z ks order) (sym (eqb-true own window.block e))
        ∙ ap (λ (z : List Node). merged_block window list next own z order) same
        ∙ sym (ap merged_here is ∙ merged-Block own kids order ∙ cond-true _ _ _ e)

    pub of_other_block : eqb own window.block ≡ false → (copies : List Node) (pairs : List (ℕ × ℕ)) → copies ≡ map merged_here ks → pairs ≡ order → Block own copies pairs ≡ merged_here n
    of_other_block e copies pairs made kept =
        ap (λ (z : List Node). Block own z pairs) (made ∙ ap (map merged_here) same)
        ∙ ap (λ (z : List (ℕ × ℕ)). Block own (map merged_here kids) z) kept
        ∙ sym (ap merged_here is ∙ merged-Block own kids order ∙ cond-false _ _ _ e)
