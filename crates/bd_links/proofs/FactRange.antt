-- The facts that a node of a task needs, gives and deletes, and the fact of its first fault, are the task's.
use Rattle.std.proofs.Common.{ℕ, zero, suc, ◌+◌, ◌<◌, Bool, true, false, not, cond, List, [], ◌∷◌, map, length, Option, Some, None, IfSome, sym, subst}
use Rattle.std.specs.List.{find, slice_get, enumerate_from}
use Rattle.std.specs.Option.{option_or}
use Rattle.bd_base.specs.Facts.{plus}
use Rattle.bd_task.specs.declared.ground.Action.{Action}
use Rattle.bd_task.specs.TaskView.{TaskView, AreBelow, AreActions, IsTask}
use Rattle.bd_task.specs.Run.{lacking}
use Rattle.bd_task.proofs.BelowLemmas.{below-filter, below-plus}
use Rattle.bd_tree.specs.declared.node.Node.{Node, Step, Block}
use Rattle.bd_tree.proofs.NodeLemmas.{Each, by_node}
use Rattle.bd_links.specs.declared.parts.Effects.{Effects}
use Rattle.bd_links.specs.Child.{Child}
use Rattle.bd_links.specs.declared.parts.Fault.{Fault}
use Rattle.bd_links.specs.Effects.{Kid, Order, step_effects, block_effects, with_facts, is_needed, is_given, is_deleted, is_safe}
use Rattle.bd_links.specs.Faults.{first_of, inside, kid_fault, block_fault, holds_after, need_fault, goal_fault, root_fault, fact_of}
use Rattle.bd_links.specs.Sound.{Summary, summary_of, child_of, effects_of, first_fault}
use Rattle.bd_links.proofs.Equations.{summary_of-Step, child_of-Block, fault_of-Block}

-- the facts of the effects are below n
record AreWithin (n : ℕ) (e : Effects) : Type 0 where
  pub need : AreBelow n e.need
  pub add : AreBelow n e.add
  pub del : AreBelow n e.del

abbrev KidsWithin : ℕ → List Kid → Type 0
KidsWithin n [] = Unit {0}
KidsWithin n (k ∷ kids) = AreWithin n k.1.effects × KidsWithin n kids

-- the fact of the fault, if there is one, is below n
abbrev IsBelow : ℕ → Option Fault → Type 0
IsBelow n f = IfSome f (λ fault. fact_of fault < n)

-- faults

or_below : (n : ℕ) (f g : Option Fault) → IsBelow n f → IsBelow n g → IsBelow n (option_or f g)
or_below n None g h k = k
or_below n (Some x) g h k = h

find_below : (n : ℕ) (t : ℕ → Bool) (s : List ℕ) → AreBelow n s → IfSome (find t s) (λ p. p < n)
find_below n t [] b = tt
find_below n t (x ∷ s) b = by_test (t x) (find_below n t s b.1)
  where
    by_test : (found : Bool) → IfSome (find t s) (λ p. p < n) → IfSome (cond found (Some x) (find t s)) (λ p. p < n)
    by_test true h = b.0
    by_test false h = h

inside_below : (n block child : ℕ) (p : Option ℕ) → IfSome p (λ q. q < n) → IsBelow n (inside block child p)
inside_below n block child None h = tt
inside_below n block child (Some p) h = h

need_below : (n : ℕ) (p : Option ℕ) → IfSome p (λ q. q < n) → IsBelow n (need_fault p)
need_below n None h = tt
need_below n (Some p) h = h

goal_below : (n : ℕ) (p : Option ℕ) → IfSome p (λ q. q < n) → IsBelow n (goal_fault p)
goal_below n None h = tt
goal_below n (Some p) h = h

kids_fault_below : (n block : ℕ) (order : Order) (kids rest : List Kid) → KidsWithin n rest → IsBelow n (first_of (map (kid_fault block order kids) rest))
kids_fault_below n block order kids [] w = tt
kids_fault_below n block order kids (j ∷ rest) w =
    or_below n (kid_fault block order kids j) _
    (inside_below n block j.1.id _ (find_below n (λ p. not (is_safe order kids j p)) j.1.effects.need w.0.need))
    (kids_fault_below n block order kids rest w.1)

root_fault_below : (n : ℕ) (init goal : List ℕ) (e : Effects) → AreWithin n e → AreBelow n goal → IsBelow n (root_fault init goal e)
root_fault_below n init goal e w g =
    or_below n (need_fault (lacking e.need init)) _
    (need_below n _ (find_below n _ e.need w.need))
    (goal_below n _ (find_below n (λ q. not (holds_after init e q)) goal g))

-- effects

with_below : (n : ℕ) (f : Effects → List ℕ) (s : List ℕ) (kids : List Kid) → ((e : Effects) → AreWithin n e → AreBelow n (f e)) → AreBelow n s → KidsWithin n kids → AreBelow n (with_facts f s kids)
with_below n f s [] each b w = b
with_below n f s (k ∷ kids) each b w = with_below n f (plus s (f k.1.effects)) kids each (below-plus n s (f k.1.effects) b (each k.1.effects w.0)) w.1

block_within : (n : ℕ) (order : Order) (kids : List Kid) → KidsWithin n kids → AreWithin n (block_effects order kids)
block_within n order kids w = record {
  need = below-filter n (is_needed order kids) _ (with_below n (λ e. e.need) [] kids (λ e h. h.need) tt w);
  add = below-filter n (is_given order kids) _ (with_below n (λ e. e.add) [] kids (λ e h. h.add) tt w);
  del = below-filter n (is_deleted order kids) _ (with_below n (λ e. e.del) [] kids (λ e h. h.del) tt w);
}

step_within : (n : ℕ) (actions : List Action) (a : ℕ) → AreActions n actions → AreWithin n (step_effects (slice_get actions a))
step_within n [] a are = record { need = tt; add = tt; del = tt }
step_within n (x ∷ actions) zero are = record { need = are.0.pre; add = are.0.add; del = are.0.del }
step_within n (x ∷ actions) (suc a) are = step_within n actions a are.1

-- nodes

module _ (n : ℕ) (actions : List Action) (are : AreActions n actions) where
  -- the effects of the node and its first fault are below n
  abbrev IsWithin : Node → Type 0
  IsWithin node = AreWithin n (effects_of actions node) × IsBelow n (summary_of actions node).fault

  numbered_within : (m : ℕ) (kids : List Node) → Each IsWithin kids → KidsWithin n (enumerate_from m (map (child_of actions) kids))
  numbered_within m [] e = tt
  numbered_within m (k ∷ kids) e = (e.0.0, numbered_within (m + 1) kids e.1)

  faults_below : (kids : List Node) → Each IsWithin kids → IsBelow n (first_of (map (λ (k : Summary). k.fault) (map (summary_of actions) kids)))
  faults_below [] e = tt
  faults_below (k ∷ kids) e = or_below n (summary_of actions k).fault _ e.0.1 (faults_below kids e.1)

  at_step : (id a : ℕ) → IsWithin (Step id a)
  at_step id a =
      let P : Summary → Type 0 = λ s. AreWithin n s.child.effects × IsBelow n s.fault in
      subst P (sym (summary_of-Step actions id a)) (step_within n actions a are, tt)

  at_block : (id : ℕ) (kids : List Node) (order : Order) → Each IsWithin kids → IsWithin (Block id kids order)
  at_block id kids order e =
      let P : Child → Type 0 = λ c. AreWithin n c.effects in
      let children = enumerate_from 0 (map (child_of actions) kids) in
      let w = numbered_within 0 kids e in (
        subst P (sym (child_of-Block actions id kids order)) (block_within n order children w),
        subst (IsBelow n) (sym (fault_of-Block actions id kids order)) (or_below n _ (block_fault id order children) (faults_below kids e) (kids_fault_below n id order children children w)),
      )

  node_within : (node : Node) → IsWithin node
  node_within = by_node IsWithin at_step at_block

pub fault_below : (task : TaskView) (root : Node) → IsTask task → IsBelow (length task.facts) (first_fault task root)
fault_below task root is =
    let n = length task.facts in
    let w = node_within n task.actions is.actions root in
    or_below n (summary_of task.actions root).fault _ w.1 (root_fault_below n task.init task.goal (effects_of task.actions root) w.0 is.goal)
