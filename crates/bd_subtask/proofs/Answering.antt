-- The window's block, as it was found.
use Rattle.std.proofs.Common.{◌≡◌, ℕ, true, List, map, length, Some, Result, Ok, Err, IfOk, sym, ap, ◌∙◌, [], ◌∷◌, inl, inr, refl}
use Rattle.std.specs.List.{list_all}
use Rattle.std.proofs.lemmas.Bool.{and_parts, and_from}
use Rattle.bd_task.specs.TaskView.{TaskView}
use Rattle.bd_tree.specs.declared.node.Node.{Node, Block}
use Rattle.bd_tree.specs.Tree.{find_in, id_of}
use Rattle.bd_tree.proofs.NodeLemmas.{id_of-Block}
use Rattle.bd_tree.proofs.TreeLemmas.{found_by_id}
use Rattle.bd_links.specs.Sound.{are_below}
use Rattle.bd_links.proofs.Members.{all_at}
use Rattle.bd_merge.specs.Stands.{IsAmong, AreAmong, Stands}
use Rattle.bd_merge.specs.declared.standing.Found.TheVariants.{At}
use Rattle.bd_merge.specs.declared.window.Window.{Window}
use Rattle.bd_subtask.specs.Subtask.{around, carried_cost, mentioned, or_nothing, subtask_from, subtask_of}
use Rattle.bd_subtask.specs.Certain.{certain_in}
use Rattle.bd_subtask.specs.Level.{IsKept, IsLevel}
use Rattle.bd_subtask.specs.declared.level.Level.{Level}
use Rattle.bd_subtask.specs.declared.parts.SubTask.{SubTask}
use Rattle.bd_subtask.proofs.Nodes.{found_has, in_mapped}
use Rattle.bd_subtask.proofs.Own.{below-Block}
use Rattle.bd_subtask.proofs.Use.{subtask_is}

module _ (task : TaskView) (root : Node) (window : Window) (node : Node) (found : find_in window.block root ≡ Some node) where
  pub node_below : are_below (length task.actions) root ≡ true → are_below (length task.actions) node ≡ true
  node_below h = found_has window.block node (λ n. are_below (length task.actions) n ≡ true)
      (λ own ks o q k i. all_at (λ b. b) (are_below (length task.actions) k) (map (are_below (length task.actions)) ks) (sym (below-Block (length task.actions) own ks o) ∙ q) (in_mapped (are_below (length task.actions)) ks k i)) root found h

  module _ (id : ℕ) (kids ks : List Node) (order : List (ℕ × ℕ)) (is : node ≡ Block id kids order) (same : ks ≡ kids) where
    own_is : id ≡ window.block
    own_is = sym (id_of-Block id kids order) ∙ ap id_of (sym is) ∙ found_by_id window.block root node found

    pub opens : node ≡ Block window.block ks order
    opens = is ∙ ap (λ z. Block z kids order) own_is ∙ ap (λ z. Block window.block z order) (sym same)

    pub found_is : find_in window.block root ≡ Some (Block window.block ks order)
    found_is = found ∙ ap Some opens

    -- the subtask, by what is certain and mentioned
    pub posed_from : (certain facts : List ℕ) → certain ≡ or_nothing (certain_in task.actions window.block root task.init) → facts ≡ mentioned task root window.block → (s : SubTask) → s ≡ subtask_from (around task window ks order) certain facts (carried_cost task window) → s ≡ subtask_of task root window
    posed_from certain facts c m s e =
        let a = around task window ks order in
        e
        ∙ ap (λ z. subtask_from a z facts (carried_cost task window)) c
        ∙ ap (λ z. subtask_from a (or_nothing (certain_in task.actions window.block root task.init)) z (carried_cost task window)) m
        ∙ sym (subtask_is task root window ks order found_is)

    -- the same, by a level of the block
    pub posed : (level : Level) → IsLevel task root level → level.block ≡ window.block → (s : SubTask) → s ≡ subtask_from (around task window ks order) level.certain level.mentioned (carried_cost task window) → s ≡ subtask_of task root window
    posed level l own = posed_from level.certain level.mentioned
        (l.certain ∙ ap (λ (b : ℕ). or_nothing (certain_in task.actions b root task.init)) own)
        (l.mentioned ∙ ap (λ (b : ℕ). mentioned task root b) own)

    pub kept : (level : Level) → IsLevel task root level → level.block ≡ window.block → IsKept task ks order level
    kept level l own = l.kept ks order (ap (λ (b : ℕ). find_in b root) own ∙ found_is ∙ ap (λ (b : ℕ). Some (Block b ks order)) (sym own))

pub if_ok : {A E : Type 0} (P Q : A → Type 0) (r : Result A E) → IfOk r P → ((a : A) → P a → Q a) → IfOk r Q
if_ok P Q (Ok a) p h = h a p
if_ok P Q (Err e) p h = tt

-- the actions of what a standing window carries are the tree's
among_below : (n : ℕ) (kids : List Node) → list_all (λ b. b) (map (are_below n) kids) ≡ true → (w : Node) → IsAmong kids w → are_below n w ≡ true
among_below n [] h w i = absurd i
among_below n (k ∷ ks) h w (inl same) = ap (are_below n) (sym same) ∙ (and_parts (are_below n k) _ h).0
among_below n (k ∷ ks) h w (inr later) = among_below n ks (and_parts (are_below n k) _ h).1 w later

all_among : (n : ℕ) (kids : List Node) → list_all (λ b. b) (map (are_below n) kids) ≡ true → (ws : List Node) → AreAmong kids ws → list_all (λ b. b) (map (are_below n) ws) ≡ true
all_among n kids h [] a = refl
all_among n kids h (w ∷ ws) a = and_from _ _ (among_below n kids h w a.0) (all_among n kids h ws a.1)

pub carried_below : (task : TaskView) (root : Node) (window : Window) → Stands root window At → are_below (length task.actions) root ≡ true → list_all (λ b. b) (map (are_below (length task.actions)) window.kids) ≡ true
carried_below task root window stands h =
    let there = stands.0 in
    all_among (length task.actions) there.kids (sym (below-Block (length task.actions) window.block there.kids there.order) ∙ node_below task root window (Block window.block there.kids there.order) there.found h) window.kids there.carried.equal

-- the node of a level of the window's block is the one that is found
pub node_at : (root : Node) (window : Window) (level : Level) → level.block ≡ window.block → find_in level.block root ≡ Some level.node.now → find_in window.block root ≡ Some level.node.now
node_at root window level own is = ap (λ (b : ℕ). find_in b root) (sym own) ∙ is
