-- The order of the deordered listed plan is one in which the tree's steps stand flat and sound: only the ids differ.
use Rattle.std.proofs.Common.{◌≡◌, ℕ, zero, suc, ◌+◌, ◌*◌, ◌<◌, ◌≤◌, get_or, true, List, [], ◌∷◌, ◌++◌, length, map, All, Option, Some, None, Result, Ok, Err, IfOk, refl, sym, ap, ◌∙◌, subst, arith}
use Rattle.std.specs.List.{list_all, slice_get}
use Rattle.std.proofs.lemmas.Bool.{and_parts, ltb-true}
use Rattle.std.proofs.lemmas.List.{length-map}
use Rattle.bd_task.specs.TaskView.{TaskView}
use Rattle.bd_task.specs.Valid.{Break, IsValid, first_break}
use Rattle.bd_tree.specs.declared.node.Node.{Node, Step, Block}
use Rattle.bd_tree.specs.declared.node.Node.TheViews.{outs-Block}
use Rattle.bd_tree.specs.Chain.{steps_from}
use Rattle.bd_tree.specs.Linearisation.{IsLinearisation}
use Rattle.bd_tree.specs.Order.{is_order, is_within}
use Rattle.bd_tree.specs.Tree.{steps_of, listed_of, products, joined, total}
use Rattle.bd_tree.specs.WellFormed.{has_orders}
use Rattle.bd_tree.proofs.BoundLemmas.{pairs_within}
use Rattle.bd_tree.proofs.DecidingLemmas.{lin_length}
use Rattle.bd_tree.proofs.MisfitLemmas.{order_fits}
use Rattle.bd_tree.proofs.NodeLemmas.{Each, by_node, steps_of-Step, steps_of-Block, pairs_of-Block, listed_of-Step, listed_of-Block, has_orders-Block}
use Rattle.bd_links.specs.Sound.{IsSound, RunsAlways, Summary, effects_of}
use Rattle.bd_links.proofs.Equations.{summary_of-Step}
use Rattle.bd_reason.specs.Reasons.{HaveReasons, reasons_of}
use Rattle.bd_deorder.specs.Deordered.{Answers, IsDeordered}
use Rattle.bd_renamed.specs.Renamed.{renamed}
use Rattle.bd_renamed.proofs.AlikeLemmas.{alike}
use Rattle.bd_renamed.proofs.RenameLemmas.{renamed-Step, renamed-Block}
use Rattle.plan_core.specs.Core.{CoreView}
use Rattle.plan_core.specs.Law.{IsCore}
use Rattle.plan_core.specs.Rebuilt.{joined_nodes, leaves_of}
use Rattle.plan_core.proofs.CoreLemmas.{all_known}
use Rattle.plan_core.proofs.RebuildLemmas.{leaves-Step, leaves-Block}
use Rattle.seq_check.specs.declared.judging.Broken.{Broken}
use Rattle.seq_check.specs.declared.judging.Broken.TheVariants.{Step as StepLacks, Goal as GoalLacks}
use Rattle.seq_check.proofs.BreakLemmas.{unbroken_is}
use Rattle.plan_rebuild.specs.Taking.{RebuildsRightly}
use Rattle.plan_rebuild.specs.Rebuilds.{IsReasonedLayer}
use Rattle.plan_rebuild.proofs.RunLemmas.{order_same, runs_there}

-- nodes that are steps of the list's actions
abbrev AreStepsOf : List Node → List ℕ → Type 0
AreStepsOf [] [] = Unit {0}
AreStepsOf [] (a ∷ list) = ⊥
AreStepsOf (n ∷ nodes) [] = ⊥
AreStepsOf (n ∷ nodes) (a ∷ list) = ((id : ℕ) × (n ≡ Step id a)) × AreStepsOf nodes list

steps_more : (ns ms : List Node) (xs ys : List ℕ) → AreStepsOf ns xs → AreStepsOf ms ys → AreStepsOf (ns ++ ms) (xs ++ ys)
steps_more [] ms [] ys s t = t
steps_more [] ms (a ∷ xs) ys s t = absurd s
steps_more (n ∷ ns) ms [] ys s t = absurd s
steps_more (n ∷ ns) ms (a ∷ xs) ys s t = (s.0, steps_more ns ms xs ys s.1 t)

numbered_steps : (id : ℕ) (list : List ℕ) → AreStepsOf (steps_from id list) list
numbered_steps id [] = tt
numbered_steps id (a ∷ list) = ((id, refl), numbered_steps (id + 1) list)

abbrev HasSteps : Node → Type 0
HasSteps n = AreStepsOf (leaves_of n) (listed_of n)

kids_steps : (kids : List Node) → Each HasSteps kids → AreStepsOf (joined_nodes (map leaves_of kids)) (joined (map listed_of kids))
kids_steps [] e = tt
kids_steps (k ∷ ks) e = steps_more (leaves_of k) (joined_nodes (map leaves_of ks)) (listed_of k) (joined (map listed_of ks)) e.0 (kids_steps ks e.1)

leaves_steps : (n : Node) → HasSteps n
leaves_steps = by_node HasSteps
    (λ id a. subst (λ z. AreStepsOf z (listed_of (Step id a))) (sym (leaves-Step id a)) (subst (AreStepsOf (Step id a ∷ [])) (sym (listed_of-Step id a)) ((id, refl), tt)))
    (λ id kids order e. subst (λ z. AreStepsOf z (listed_of (Block id kids order))) (sym (leaves-Block id kids order)) (subst (AreStepsOf (joined_nodes (map leaves_of kids))) (sym (listed_of-Block id kids order)) (kids_steps kids e)))

none_some : {X : Type 0} (x : X) → None ≡ Some x → ⊥
none_some x e = cc

same_node : (x y : Node) → Some x ≡ Some y → x ≡ y
same_node x y e = cc

-- what stands at a place of two such lists is a step of the same action
get_both : (ns ms : List Node) (list : List ℕ) (i : ℕ) (n : Node) → AreStepsOf ns list → AreStepsOf ms list → slice_get ns i ≡ Some n →
    (id : ℕ) × (other : ℕ) × (a : ℕ) × (n ≡ Step id a) × (slice_get ms i ≡ Some (Step other a))
get_both [] [] [] i n s t e = absurd (none_some n e)
get_both [] (m ∷ ms) [] i n s t e = absurd t
get_both [] ms (a ∷ list) i n s t e = absurd s
get_both (x ∷ ns) ms [] i n s t e = absurd s
get_both (x ∷ ns) [] (a ∷ list) i n s t e = absurd t
get_both (x ∷ ns) (m ∷ ms) (a ∷ list) zero n s t e = (s.0.0, t.0.0, a, same_node n x (sym e) ∙ s.0.1, ap Some t.0.1)
get_both (x ∷ ns) (m ∷ ms) (a ∷ list) (suc i) n s t e = get_both ns ms list i n s.1 t.1 e

length_both : (ns : List Node) (list : List ℕ) → AreStepsOf ns list → length ns ≡ length list
length_both [] [] s = refl
length_both [] (a ∷ list) s = absurd s
length_both (n ∷ ns) [] s = absurd s
length_both (n ∷ ns) (a ∷ list) s = omega (arith, length_both ns list s.1)

one_step : (ns : List Node) (list : List ℕ) (i : ℕ) → AreStepsOf ns list → i < length ns → get_or (map steps_of ns) i 0 ≡ 1
one_step [] list i s lt = absurd (omega (arith, lt))
one_step (n ∷ ns) [] i s lt = absurd s
one_step (n ∷ ns) (a ∷ list) zero s lt = ap steps_of s.0.1 ∙ steps_of-Step s.0.0 a
one_step (n ∷ ns) (a ∷ list) (suc i) s lt = one_step ns list i s.1 (omega (arith, lt))

-- a flat order has no more pairs than it orders steps
few_products : (ns : List Node) (list : List ℕ) (order : List (ℕ × ℕ)) → AreStepsOf ns list → list_all (is_within (length ns)) order ≡ true → length order ≤ products order (map steps_of ns)
few_products ns list [] s w = omega arith
few_products ns list (p ∷ ps) s w =
    let parts = and_parts (is_within (length ns) p) (list_all (is_within (length ns)) ps) w in
    let pair = and_parts _ _ parts.0 in
    let up : p.0 < p.1 = ltb-true _ _ pair.0 in
    let below : p.1 < length ns = ltb-true _ _ pair.1 in
    let one : get_or (map steps_of ns) p.0 0 * get_or (map steps_of ns) p.1 0 ≡ 1 =
    ap (λ z. z * get_or (map steps_of ns) p.1 0) (one_step ns list p.0 s (omega (arith, up, below))) ∙ ap (λ z. 1 * z) (one_step ns list p.1 s below) in
    omega (arith, one, few_products ns list ps s parts.1)

-- without their ids two such lists are the same
abbrev bare : Node → Node
bare = renamed (λ x. 0)

bare_same : (ns ms : List Node) (list : List ℕ) → AreStepsOf ns list → AreStepsOf ms list → map bare ns ≡ map bare ms
bare_same [] [] [] s t = refl
bare_same [] (m ∷ ms) [] s t = absurd t
bare_same [] ms (a ∷ list) s t = absurd s
bare_same (n ∷ ns) ms [] s t = absurd s
bare_same (n ∷ ns) [] (a ∷ list) s t = absurd t
bare_same (n ∷ ns) (m ∷ ms) (a ∷ list) s t =
    ap (λ z. z ∷ map bare ns) (ap bare s.0.1 ∙ renamed-Step (λ x. 0) s.0.0 a ∙ sym (renamed-Step (λ x. 0) t.0.0 a) ∙ sym (ap bare t.0.1))
    ∙ ap (λ z. bare m ∷ z) (bare_same ns ms list s.1 t.1)

module _ (task : TaskView) (ns ms : List Node) (list : List ℕ) (order : List (ℕ × ℕ)) (s : AreStepsOf ns list) (t : AreStepsOf ms list) where
  bare_flat : bare (Block 0 ns order) ≡ bare (Block 0 ms order)
  bare_flat = renamed-Block (λ x. 0) 0 ns order ∙ ap (λ z. Block 0 z order) (bare_same ns ms list s t) ∙ sym (renamed-Block (λ x. 0) 0 ms order)

  sound_flat : IsSound task (Block 0 ns order) → IsSound task (Block 0 ms order)
  sound_flat sound = (alike (λ x. 0) task (Block 0 ms order)).sound.1 (subst (IsSound task) bare_flat ((alike (λ x. 0) task (Block 0 ns order)).sound.0 sound))

  step_same : (id other a : ℕ) → effects_of task.actions (Step id a) ≡ effects_of task.actions (Step other a)
  step_same id other a = ap (λ (z : Summary). z.child.effects) (summary_of-Step task.actions id a) ∙ sym (ap (λ (z : Summary). z.child.effects) (summary_of-Step task.actions other a))

  reasons_flat : HaveReasons task.actions ns order → HaveReasons task.actions ms order
  reasons_flat have a b first second at_a at_b before free none =
      let f = get_both ms ns list a first t s at_a in
      let g = get_both ms ns list b second t s at_b in
      have a b (Step f.1 f.2) (Step g.1 g.2) f.4 g.4 before free
      (ap (λ z. reasons_of z (effects_of task.actions (Step g.1 g.2))) (step_same f.1 f.0 f.2 ∙ ap (effects_of task.actions) (sym f.3))
      ∙ ap (reasons_of (effects_of task.actions first)) (step_same g.1 g.0 g.2 ∙ ap (effects_of task.actions) (sym g.3))
      ∙ none)

module _ (core : CoreView) (is : IsCore core) (list : List ℕ) (lin : IsLinearisation core.tree list) (listed : list ≡ listed_of core.tree) where
  pub list_valid : RunsAlways core.task core.tree → IsValid core.task list
  list_valid runs = runs list lin

  pub list_short : length list ≤ 4_096
  list_short = omega (arith, lin_length core.tree list lin, is.room.short)

  pub list_there : (n : ℕ) → n ≡ length core.task.actions → IsValid core.task list → All (λ a. a < n) list
  list_there n same valid = all_known n (length core.task.actions) list (sym same) (runs_there core.task core.task.goal list core.task.init valid)

  module _ (root : Node) (d : IsDeordered core.task list root) where
    abbrev order : List (ℕ × ℕ)
    order = d.order

    leaves_are : AreStepsOf (leaves_of core.tree) list
    leaves_are = subst (AreStepsOf (leaves_of core.tree)) (sym listed) (leaves_steps core.tree)

    abbrev flat : List Node
    flat = steps_from 1 list

    flat_are : AreStepsOf flat list
    flat_are = numbered_steps 1 list

    orders : has_orders (Block 0 flat order) ≡ true
    orders = ap has_orders (sym d.flat) ∙ d.well_formed.orders

    is_one : is_order (length flat) order ≡ true
    is_one = ap (λ n. is_order n order) (sym (length-map flat has_orders)) ∙ (and_parts _ _ (sym (has_orders-Block 0 flat order) ∙ orders)).1

    flat_long : length flat ≡ steps_of core.tree
    flat_long = length_both flat list flat_are ∙ lin_length core.tree list lin

    flat_steps : (ns : List Node) (l : List ℕ) → AreStepsOf ns l → total (map steps_of ns) ≡ length ns
    flat_steps [] l s = refl
    flat_steps (n ∷ ns) [] s = absurd s
    flat_steps (n ∷ ns) (a ∷ l) s = omega (arith, ap steps_of s.0.1 ∙ steps_of-Step s.0.0 a, flat_steps ns l s.1)

    few : length order ≤ 4_096 * 4_096
    few =
        let within : list_all (is_within (length flat)) order ≡ true = (and_parts _ _ (and_parts _ _ is_one).0).0 in
        let steps : steps_of (Block 0 flat order) ≤ 4_096 = omega (arith, steps_of-Block 0 flat order, flat_steps flat list flat_are, length_both flat list flat_are, list_short) in
        omega (
          arith,
          few_products flat list order flat_are within,
          pairs_of-Block 0 flat order,
          pairs_within (Block 0 flat order) orders,
          Rattle.std.proofs.lemmas.Nat.mul-le (steps_of (Block 0 flat order)) (steps_of (Block 0 flat order)) 4_096 4_096 steps steps,
        )

    pub rebuilds : (pairs : List (ℕ × ℕ)) → pairs ≡ order → RebuildsRightly core.task core.tree pairs
    rebuilds pairs same = subst (RebuildsRightly core.task core.tree) (sym same) record {
      lent = omega (arith, few);
      orderly = order_fits (steps_of core.tree) order (ap (λ n. is_order n order) (sym flat_long) ∙ is_one);
      sound = sound_flat core.task flat (leaves_of core.tree) list order flat_are leaves_are (subst (IsSound core.task) d.flat d.sound);
      reasoned = subst (IsReasonedLayer core.task.actions) (sym (outs-Block 0 (leaves_of core.tree) order)) (reasons_flat core.task flat (leaves_of core.tree) list order flat_are leaves_are d.reasons);
    }

-- a valid list has no break
module _ (task : TaskView) (list : List ℕ) (there : All (λ a. a < length task.actions) list) (valid : IsValid task list) where
  answer_is : (r : Result Node Broken) → Answers task list (first_break task list) r → Answers task list None r
  answer_is r answers = subst (λ (o : Option Break). Answers task list o r) ((unbroken_is task list there).1 valid) answers

  pub no_step : (r : Result Node Broken) (b : Broken) (at f : ℕ) → r ≡ Err b → b ≡ StepLacks at f → Answers task list (first_break task list) r → ⊥
  no_step r b at f is same answers = subst (λ z. Answers task list None z) (is ∙ ap Err same) (answer_is r answers)

  pub no_goal : (r : Result Node Broken) (b : Broken) (f : ℕ) → r ≡ Err b → b ≡ GoalLacks f → Answers task list (first_break task list) r → ⊥
  no_goal r b f is same answers = subst (λ z. Answers task list None z) (is ∙ ap Err same) (answer_is r answers)

-- the same by the task, the tree and the list that were lent
module _ (core : CoreView) (is : IsCore core) (runs : RunsAlways core.task core.tree) (tree : Node) (task : TaskView) (list lent : List ℕ)
    (same_tree : tree ≡ core.tree) (same_task : task ≡ core.task) (listed : list ≡ listed_of tree) (lin : IsLinearisation tree list) (same_list : lent ≡ list) where
  its_lin : IsLinearisation core.tree lent
  its_lin = subst (IsLinearisation core.tree) (sym same_list) (subst (λ z. IsLinearisation z list) same_tree lin)

  its_listed : lent ≡ listed_of core.tree
  its_listed = same_list ∙ listed ∙ ap listed_of same_tree

  pub lent_there : All (λ a. a < length task.actions) lent
  lent_there = list_there core is lent its_lin its_listed (length task.actions) (ap (λ (t : TaskView). length t.actions) same_task) (runs lent its_lin)

  pub lent_short : length lent ≤ 4_096
  lent_short = list_short core is lent its_lin its_listed

  order_in : {E : Type 0} (made root : Node) (id : ℕ) (kids : List Node) (pairs : List (ℕ × ℕ)) (r : Result (List (ℕ × ℕ)) E) → IsDeordered core.task lent made → root ≡ made → root ≡ Block id kids pairs → IfOk r (λ copy. copy ≡ pairs) →
      IfOk r (λ order. RebuildsRightly core.task core.tree order)
  order_in made root id kids pairs (Ok copy) d same block told =
      rebuilds core is lent its_lin its_listed made d copy (told ∙ order_same id 0 kids (steps_from 1 lent) pairs d.order (sym block ∙ same ∙ d.flat))
  order_in made root id kids pairs (Err e) d same block told = tt

  pub order_told : {E : Type 0} (made root : Node) (id : ℕ) (kids : List Node) (pairs : List (ℕ × ℕ)) (r : Result (List (ℕ × ℕ)) E) → IsDeordered task lent made → root ≡ made → root ≡ Block id kids pairs → IfOk r (λ copy. copy ≡ pairs) →
      IfOk r (λ order. RebuildsRightly core.task core.tree order)
  order_told made root id kids pairs r d same block told = order_in made root id kids pairs r (subst (λ t. IsDeordered t lent made) same_task d) same block told
