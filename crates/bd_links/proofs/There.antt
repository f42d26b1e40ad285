-- A linearisation of a node has the node's actions alone.
use Rattle.std.proofs.Common.{◌≡◌, ℕ, ◌+◌, Bool, true, List, [], ◌∷◌, ◌++◌, map, length, sym, ◌∙◌, subst}
use Rattle.std.specs.List.{list_all, enumerate_from}
use Rattle.std.proofs.lemmas.Bool.{and_parts, ltb-true}
use Rattle.bd_task.specs.TaskView.{TaskView}
use Rattle.bd_tree.specs.declared.node.Node.{Node}
use Rattle.bd_tree.specs.declared.node.Node.TheFolds.{fold_out-Node}
use Rattle.bd_tree.specs.Linearisation.{IsLinearisation, LinearisesKids, of_step, of_block, no_kid, next_kid}
use Rattle.bd_links.specs.Sound.{are_below, below_step, IsSound, AreThere, RunsAlways}
use Rattle.bd_links.proofs.Members.{In, here, there, in_middle, in_with}
use Rattle.bd_links.proofs.Runs.{links_hold}

module _ (task : TaskView) where
  there_both : (xs ys : List ℕ) → AreThere task xs → AreThere task ys → AreThere task (xs ++ ys)
  there_both [] ys h k = k
  there_both (x ∷ xs) ys h k = (h.0, there_both xs ys h.1 k)

  abbrev bound : ℕ
  bound = length task.actions

  kids_below : (m : ℕ) (kids : List Node) → list_all (λ b. b) (map (are_below bound) kids) ≡ true → (k : ℕ × Node) → In k (enumerate_from m kids) → are_below bound k.1 ≡ true
  kids_below m [] e k i = elim i [ ]
  kids_below m (x ∷ kids) e k here = (and_parts (are_below bound x) _ e).0
  kids_below m (x ∷ kids) e k (there i) = kids_below (m + 1) kids (and_parts (are_below bound x) _ e).1 k i

  mutual
    pub node_there : (n : Node) (list : List ℕ) → IsLinearisation n list → are_below bound n ≡ true → AreThere task list
    node_there n list (of_step id a e) b = (ltb-true a bound (sym (fold_out-Node Bool (below_step bound) n ∙ rw e) ∙ b), tt)
    node_there n list (of_block id kids order e of) b =
        kids_there order (enumerate_from 0 kids) list of (kids_below 0 kids (sym (fold_out-Node Bool (below_step bound) n ∙ rw e) ∙ b))

    kids_there : (order : List (ℕ × ℕ)) (rest : List (ℕ × Node)) (list : List ℕ) → LinearisesKids order rest list → ((k : ℕ × Node) → In k rest → are_below bound k.1 ≡ true) → AreThere task list
    kids_there order rest list no_kid h = tt
    kids_there order rest list (next_kid b a k front back split first lin of joined) h =
        subst (AreThere task) (sym joined) (there_both front back
        (node_there k.1 front lin (h k (subst (λ z. In k z) (sym split) (in_middle b a k))))
        (kids_there order (b ++ a) back of (λ j i. h j (subst (λ z. In j z) (sym split) (in_with b a k j i)))))

  pub runs_always : (root : Node) → are_below bound root ≡ true → IsSound task root → RunsAlways task root
  runs_always root below sound list lin = links_hold task root sound list lin (node_there root list lin below)
