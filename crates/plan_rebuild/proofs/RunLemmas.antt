-- A list that runs has the task's actions alone, and a window that stands is not split.
use Rattle.std.proofs.Common.{◌≡◌, ℕ, ◌<◌, not, List, [], ◌∷◌, length, map, Option, Some, None, refl, sym, ap, ◌∙◌}
use Rattle.std.specs.List.{enumerate_from, slice_get}
use Rattle.std.proofs.lemmas.Bool.{cond-false, lt-ltb}
use Rattle.std.proofs.lemmas.Option.{slice_get_within}
use Rattle.bd_task.specs.TaskView.{TaskView}
use Rattle.bd_task.specs.Run.{step_by, run, run_on}
use Rattle.bd_task.specs.Valid.{HoldsIn}
use Rattle.bd_task.specs.declared.ground.Action.{Action}
use Rattle.bd_tree.specs.Convex.{are_convex}
use Rattle.bd_tree.specs.Tree.{id_of}
use Rattle.bd_tree.specs.declared.node.Node.{Node, Block}
use Rattle.bd_tree.specs.declared.node.Node.TheOpen.{Node-F}
use Rattle.bd_tree.specs.declared.node.Node.TheViews.{out-Node, outs-Block}
use Rattle.bd_merge.specs.declared.standing.Found.TheVariants.{At, Split}
use Rattle.bd_merge.specs.declared.window.Window.{Window}
use Rattle.bd_merge.specs.Stands.{Stands}
use Rattle.plan_core.specs.Replies.{unknown_of}
use Rattle.plan_core.proofs.MeasureLemmas.{clash, kids_same, some_same}

pub none_other : {X : Type 0} (x : X) → None ≡ Some x → ⊥
none_other x e = cc

-- a list that runs has the task's actions alone
module _ (task : TaskView) (goal : List ℕ) where
  pub runs_there : (list : List ℕ) (s : List ℕ) → HoldsIn goal (run task s list) → unknown_of (length task.actions) list ≡ None
  runs_there [] s h = refl
  runs_there (a ∷ rest) s h = by_action (slice_get task.actions a) refl h (runs_there rest)
    where
      below : a < length task.actions → unknown_of (length task.actions) rest ≡ None → unknown_of (length task.actions) (a ∷ rest) ≡ None
      below lt e = cond-false _ _ _ (ap not (lt-ltb _ _ lt)) ∙ e

      by_action : (o : Option Action) → slice_get task.actions a ≡ o → HoldsIn goal (run_on (step_by o s) (λ t. run task t rest)) → ((t : List ℕ) → HoldsIn goal (run task t rest) → unknown_of (length task.actions) rest ≡ None) → unknown_of (length task.actions) (a ∷ rest) ≡ None
      by_action None e h more = absurd h
      by_action (Some x) e h more = by_step (step_by (Some x) s) h
        where
          by_step : (o : Option (List ℕ)) → HoldsIn goal (run_on o (λ t. run task t rest)) → unknown_of (length task.actions) (a ∷ rest) ≡ None
          by_step None h = absurd h
          by_step (Some t) h = below (slice_get_within task.actions a x e) (more t h)

abbrev layer_order : Node-F Node → List (ℕ × ℕ)
layer_order (Node-F.Step id a) = []
layer_order (Node-F.Block id kids order) = order

pub order_same : (i j : ℕ) (ks ls : List Node) (o p : List (ℕ × ℕ)) → Block i ks o ≡ Block j ls p → o ≡ p
order_same i j ks ls o p e = sym (ap layer_order (outs-Block i ks o)) ∙ ap (λ n. layer_order (out-Node n)) e ∙ ap layer_order (outs-Block j ls p)

pub never_split : (root : Node) (window : Window) → Stands root window At → Stands root window Split → ⊥
never_split root window a s =
    let same : Block window.block a.0.kids a.0.order ≡ Block window.block s.0.kids s.0.order = some_same _ _ (sym a.0.found ∙ s.0.found) in
    let kids : a.0.kids ≡ s.0.kids = kids_same _ _ _ _ _ _ same in
    let order : a.0.order ≡ s.0.order = order_same _ _ _ _ _ _ same in
    clash (are_convex a.0.order (map id_of window.kids) (enumerate_from 0 a.0.kids)) a.1
    (ap (λ o. are_convex o (map id_of window.kids) (enumerate_from 0 a.0.kids)) order ∙ ap (λ k. are_convex s.0.order (map id_of window.kids) (enumerate_from 0 k)) kids ∙ s.1)
