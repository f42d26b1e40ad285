-- The summary of a step and of a block.
use Rattle.std.proofs.Common.{◌≡◌, ℕ, true, List, [], ◌∷◌, map, None, refl, sym, ap, ◌∙◌}
use Rattle.std.specs.List.{slice_get, enumerate_from}
use Rattle.std.specs.Option.{option_or}
use Rattle.bd_task.specs.declared.ground.Action.{Action}
use Rattle.bd_tree.specs.declared.node.Node.{Node, Step, Block}
use Rattle.bd_tree.specs.declared.node.Node.TheOpen.{Node-F}
use Rattle.bd_tree.specs.declared.node.Node.TheViews.{out-Node, rolls-Step, rolls-Block}
use Rattle.bd_tree.specs.declared.node.Node.TheFolds.{fold-roll-Node, fold_out-Node}
use Rattle.bd_links.specs.Effects.{step_effects, block_effects}
use Rattle.bd_links.specs.Faults.{first_of, block_fault}
use Rattle.bd_links.specs.Sound.{Summary, summary_of, summary_step, child_of}

module _ (actions : List Action) where
  pub summary_of-Step : (id a : ℕ) → summary_of actions (Step id a) ≡ record { child = record { id = id; effects = step_effects (slice_get actions a) }; well_linked = true; fault = None }
  summary_of-Step id a = ap (summary_of actions) (sym (rolls-Step id a)) ∙ fold-roll-Node Summary (summary_step actions) (Node-F.Step id a)

  pub summary_of-Block : (id : ℕ) (kids : List Node) (order : List (ℕ × ℕ)) → summary_of actions (Block id kids order) ≡ summary_step actions (Node-F.Block id (map (summary_of actions) kids) order)
  summary_of-Block id kids order = ap (summary_of actions) (sym (rolls-Block id kids order)) ∙ fold-roll-Node Summary (summary_step actions) (Node-F.Block id kids order)

  -- by what the node opens to
  pub summary_of-out_step : (n : Node) (id a : ℕ) → out-Node n ≡ Node-F.Step id a → summary_of actions n ≡ record { child = record { id = id; effects = step_effects (slice_get actions a) }; well_linked = true; fault = None }
  summary_of-out_step n id a e = fold_out-Node Summary (summary_step actions) n ∙ rw e

  pub summary_of-out_block : (n : Node) (id : ℕ) (kids : List Node) (order : List (ℕ × ℕ)) → out-Node n ≡ Node-F.Block id kids order → summary_of actions n ≡ summary_step actions (Node-F.Block id (map (summary_of actions) kids) order)
  summary_of-out_block n id kids order e = fold_out-Node Summary (summary_step actions) n ∙ rw e

  map-child : (kids : List Node) → map (λ (k : Summary). k.child) (map (summary_of actions) kids) ≡ map (child_of actions) kids
  map-child [] = refl
  map-child (k ∷ ks) = ap (λ z. child_of actions k ∷ z) (map-child ks)

  pub child_of-Block : (id : ℕ) (kids : List Node) (order : List (ℕ × ℕ)) → child_of actions (Block id kids order) ≡ record { id = id; effects = block_effects order (enumerate_from 0 (map (child_of actions) kids)) }
  child_of-Block id kids order =
      ap (λ (z : Summary). z.child) (summary_of-Block id kids order) ∙ ap (λ z. record { id = id; effects = block_effects order (enumerate_from 0 z) }) (map-child kids)

  pub fault_of-Block : (id : ℕ) (kids : List Node) (order : List (ℕ × ℕ)) →
      (summary_of actions (Block id kids order)).fault ≡ option_or (first_of (map (λ (k : Summary). k.fault) (map (summary_of actions) kids))) (block_fault id order (enumerate_from 0 (map (child_of actions) kids)))
  fault_of-Block id kids order =
      ap (λ (z : Summary). z.fault) (summary_of-Block id kids order)
      ∙ ap (λ z. option_or (first_of (map (λ (k : Summary). k.fault) (map (summary_of actions) kids))) (block_fault id order (enumerate_from 0 z))) (map-child kids)
