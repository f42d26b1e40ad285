-- The lines of a node, at a step and at a block.
use Rattle.std.proofs.Common.{◌≡◌, ℕ, List, [], ◌∷◌, ◌++◌, map, Result, Ok, Err, OnOk, refl, sym, ap, ◌∙◌, append_assoc}
use Rattle.bd_task.specs.TaskView.{TaskView}
use Rattle.bd_tree.specs.declared.node.Node.{Node, Step, Block}
use Rattle.bd_tree.specs.declared.node.Node.TheOpen.{Node-F}
use Rattle.bd_tree.specs.declared.node.Node.TheViews.{rolls-Step, rolls-Block}
use Rattle.bd_tree.specs.declared.node.Node.TheFolds.{para-roll-Node}
use Rattle.bd_tree.specs.Tree.{joined}
use Rattle.bd_links.specs.Child.{Child}
use Rattle.bd_links.specs.Sound.{child_of}
use Rattle.bd_report.specs.TreeText.{block_line, inner, node_lines, order_lines, step_line, tree_step}

pub on_ok : {T E : Type 0} (P Q : Type 0) (r : Result T E) → (P → Q) → OnOk r P → OnOk r Q
on_ok P Q (Ok x) f p = f p
on_ok P Q (Err e) f p = tt

module _ (task : TaskView) where
  abbrev paired : Node → Node × (List ℕ → List ℕ)
  paired k = (k, node_lines task k)

  kids_lines : (margin : List ℕ) (kids : List Node) → map (λ (k : Node × (List ℕ → List ℕ)). k.1 margin) (map paired kids) ≡ map (λ k. node_lines task k margin) kids
  kids_lines margin [] = refl
  kids_lines margin (k ∷ ks) = ap (λ z. node_lines task k margin ∷ z) (kids_lines margin ks)

  kids_children : (kids : List Node) → map (λ (k : Node × (List ℕ → List ℕ)). child_of task.actions k.0) (map paired kids) ≡ map (child_of task.actions) kids
  kids_children [] = refl
  kids_children (k ∷ ks) = ap (λ z. child_of task.actions k ∷ z) (kids_children ks)

  pub lines-Step : (id action : ℕ) (margin : List ℕ) → node_lines task (Step id action) margin ≡ step_line task margin id action
  lines-Step id action margin =
      ap (λ (n : Node). node_lines task n margin) (sym (rolls-Step id action))
      ∙ ap (λ (f : List ℕ → List ℕ). f margin) (para-roll-Node (List ℕ → List ℕ) (tree_step task) (Node-F.Step id action))

  pub lines-Block : (id : ℕ) (kids : List Node) (order : List (ℕ × ℕ)) (margin : List ℕ) →
      node_lines task (Block id kids order) margin
      ≡ block_line margin id ++ (joined (map (λ k. node_lines task k (inner margin)) kids) ++ order_lines task (inner margin) (map (child_of task.actions) kids) order)
  lines-Block id kids order margin =
      ap (λ (n : Node). node_lines task n margin) (sym (rolls-Block id kids order))
      ∙ ap (λ (f : List ℕ → List ℕ). f margin) (para-roll-Node (List ℕ → List ℕ) (tree_step task) (Node-F.Block id kids order))
      ∙ ap (λ (z : List (List ℕ)). block_line margin id ++ (joined z ++ order_lines task (inner margin) (map (λ (k : Node × (List ℕ → List ℕ)). child_of task.actions k.0) (map paired kids)) order)) (kids_lines (inner margin) kids)
      ∙ ap (λ (z : List Child). block_line margin id ++ (joined (map (λ k. node_lines task k (inner margin)) kids) ++ order_lines task (inner margin) z order)) (kids_children kids)

  -- a block's line, then the lines of its kids, then those of its order
  pub block_put : (margin : List ℕ) (id : ℕ) (kids : List Node) (order : List (ℕ × ℕ)) (node : Node) → node ≡ Block id kids order → (items : List Node) → items ≡ kids → (old begun full new : List ℕ) →
      begun ≡ old ++ block_line margin id → full ≡ begun ++ joined (map (λ k. node_lines task k (inner margin)) items) → new ≡ full ++ order_lines task (inner margin) (map (child_of task.actions) items) order → new ≡ old ++ node_lines task node margin
  block_put margin id kids order node is items same old begun full new b f n =
      let body : List Node → List ℕ = λ ks. joined (map (λ k. node_lines task k (inner margin)) ks) in
      let ends : List Node → List ℕ = λ ks. order_lines task (inner margin) (map (child_of task.actions) ks) order in
      n ∙ ap (λ (z : List ℕ). z ++ ends items) (f ∙ ap (λ (z : List ℕ). z ++ body items) b)
      ∙ append_assoc (old ++ block_line margin id) (body items) (ends items)
      ∙ append_assoc old (block_line margin id) (body items ++ ends items)
      ∙ ap (λ (ks : List Node). old ++ (block_line margin id ++ (body ks ++ ends ks))) same
      ∙ ap (λ (z : List ℕ). old ++ z) (sym (ap (λ (m : Node). node_lines task m margin) is ∙ lines-Block id kids order margin))
