-- The facts that a task's nodes need, give and delete are the task's, and so are those of their reasons.
use Rattle.std.proofs.Common.{◌≡◌, ℕ, zero, suc, ◌+◌, ◌<◌, List, [], ◌∷◌, ◌++◌, filter, map, Some, slice_get, refl, sym, subst}
use Rattle.std.specs.List.{enumerate_from}
use Rattle.bd_base.specs.Facts.{has, plus}
use Rattle.bd_task.specs.declared.ground.Action.{Action}
use Rattle.bd_task.specs.TaskView.{AreBelow, AreActions}
use Rattle.bd_task.proofs.BelowLemmas.{below-filter, below-plus}
use Rattle.bd_tree.specs.declared.node.Node.{Node, Step, Block}
use Rattle.bd_tree.proofs.NodeLemmas.{Each, by_node}
use Rattle.bd_links.specs.declared.parts.Effects.{Effects}
use Rattle.bd_links.specs.Child.{Child}
use Rattle.bd_links.specs.Effects.{Kid, Order, step_effects, block_effects, with_facts, is_needed, is_given, is_deleted}
use Rattle.bd_links.specs.Sound.{Summary, child_of}
use Rattle.bd_links.proofs.Equations.{summary_of-Step, child_of-Block}
use Rattle.bd_reason.specs.declared.reason.Reason.{Reason}
use Rattle.bd_reason.specs.declared.reason.Reason.TheVariants.{PC, CD, DP}
use Rattle.bd_reason.specs.Reasons.{fact_of, reasons_of}
use Rattle.bd_report.specs.Range.{AreChildrenIn, AreReasonsIn, IsChildIn}

abbrev KidsIn : ℕ → List Kid → Type 0
KidsIn n [] = Unit {0}
KidsIn n (k ∷ kids) = IsChildIn n k.1 × KidsIn n kids

with_below : (n : ℕ) (f : Effects → List ℕ) (s : List ℕ) (kids : List Kid) → ((c : Child) → IsChildIn n c → AreBelow n (f c.effects)) → AreBelow n s → KidsIn n kids → AreBelow n (with_facts f s kids)
with_below n f s [] each b w = b
with_below n f s (k ∷ kids) each b w = with_below n f (plus s (f k.1.effects)) kids each (below-plus n s (f k.1.effects) b (each k.1 w.0)) w.1

block_in : (n id : ℕ) (order : Order) (kids : List Kid) → KidsIn n kids → IsChildIn n (record { id = id; effects = block_effects order kids })
block_in n id order kids w = record {
  need = below-filter n (is_needed order kids) _ (with_below n (λ e. e.need) [] kids (λ c h. h.need) tt w);
  add = below-filter n (is_given order kids) _ (with_below n (λ e. e.add) [] kids (λ c h. h.add) tt w);
  del = below-filter n (is_deleted order kids) _ (with_below n (λ e. e.del) [] kids (λ c h. h.del) tt w);
}

step_in : (n id : ℕ) (actions : List Action) (a : ℕ) → AreActions n actions → IsChildIn n (record { id = id; effects = step_effects (slice_get actions a) })
step_in n id [] a are = record { need = tt; add = tt; del = tt }
step_in n id (x ∷ actions) zero are = record { need = are.0.pre; add = are.0.add; del = are.0.del }
step_in n id (x ∷ actions) (suc a) are = step_in n id actions a are.1

module _ (n : ℕ) (actions : List Action) (are : AreActions n actions) where
  abbrev NodeIn : Node → Type 0
  NodeIn node = IsChildIn n (child_of actions node)

  numbered_in : (m : ℕ) (kids : List Node) → Each NodeIn kids → KidsIn n (enumerate_from m (map (child_of actions) kids))
  numbered_in m [] e = tt
  numbered_in m (k ∷ kids) e = (e.0, numbered_in (m + 1) kids e.1)

  at_step : (id a : ℕ) → NodeIn (Step id a)
  at_step id a =
      let P : Summary → Type 0 = λ s. IsChildIn n s.child in
      subst P (sym (summary_of-Step actions id a)) (step_in n id actions a are)

  at_block : (id : ℕ) (kids : List Node) (order : Order) → Each NodeIn kids → NodeIn (Block id kids order)
  at_block id kids order e = subst (IsChildIn n) (sym (child_of-Block actions id kids order)) (block_in n id order (enumerate_from 0 (map (child_of actions) kids)) (numbered_in 0 kids e))

  pub node_in : (node : Node) → NodeIn node
  node_in = by_node NodeIn at_step at_block

  pub kids_in : (kids : List Node) → AreChildrenIn n (map (child_of actions) kids)
  kids_in [] = tt
  kids_in (k ∷ kids) = (node_in k, kids_in kids)

-- the kid at a place
pub kid_in : (n : ℕ) (kids : List Child) (i : ℕ) (c : Child) → AreChildrenIn n kids → slice_get kids i ≡ Some c → IsChildIn n c
kid_in n [] i c h e = absurd (cc)
kid_in n (k ∷ kids) zero c h e = let same : k ≡ c = cc in subst (IsChildIn n) same h.0
kid_in n (k ∷ kids) (suc i) c h e = kid_in n kids i c h.1 e

-- reasons
append_in : (n : ℕ) (xs ys : List Reason) → AreReasonsIn n xs → AreReasonsIn n ys → AreReasonsIn n (xs ++ ys)
append_in n [] ys h k = k
append_in n (x ∷ xs) ys h k = (h.0, append_in n xs ys h.1 k)

map_in : (n : ℕ) (f : ℕ → Reason) (s : List ℕ) → ((p : ℕ) → fact_of (f p) ≡ p) → AreBelow n s → AreReasonsIn n (map f s)
map_in n f [] e b = tt
map_in n f (x ∷ s) e b = (subst (λ z. z < n) (sym (e x)) b.0, map_in n f s e b.1)

pub reasons_in : (n : ℕ) (a b : Child) → IsChildIn n a → AreReasonsIn n (reasons_of a.effects b.effects)
reasons_in n a b h =
    let causes = map_in n PC _ (λ p. refl) (below-filter n (has b.effects.need) a.effects.add h.add) in
    let consumed = map_in n CD _ (λ p. refl) (below-filter n (has b.effects.del) a.effects.need h.need) in
    let deleted = map_in n DP _ (λ p. refl) (below-filter n (has b.effects.add) a.effects.del h.del) in
    append_in n (map PC (filter (has b.effects.need) a.effects.add) ++ map CD (filter (has b.effects.del) a.effects.need)) (map DP (filter (has b.effects.add) a.effects.del))
    (append_in n (map PC (filter (has b.effects.need) a.effects.add)) (map CD (filter (has b.effects.del) a.effects.need)) causes consumed) deleted
