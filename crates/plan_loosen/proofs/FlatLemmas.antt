-- A core may begin on a deordered tree, and its ordered step pairs are few.
use Rattle.std.proofs.Common.{◌≡◌, ℕ, ◌+◌, ◌<◌, ◌≤◌, Bool, true, List, Option, Some, None, Result, Ok, Err, All, IfOk, length, map, refl, sym, ap, ◌∙◌, subst, arith}
use Rattle.std.specs.List.{list_all}
use Rattle.std.proofs.lemmas.List.Elements.{recursion_from_All}
use Rattle.std.proofs.lemmas.Nat.{mul-le}
use Rattle.bd_base.specs.Pairs.{total_order}
use Rattle.bd_task.specs.TaskView.{TaskView}
use Rattle.bd_task.specs.Valid.{Break, IsValid, first_break}
use Rattle.bd_tree.specs.declared.node.Node.{Node, Block}
use Rattle.bd_tree.specs.declared.node.Node.TheOpen.{Node-F}
use Rattle.bd_tree.specs.declared.node.Node.TheViews.{rolls-Block}
use Rattle.bd_tree.specs.declared.node.Node.TheFolds.{fold-roll-Node}
use Rattle.bd_tree.specs.Chain.{steps_from}
use Rattle.bd_tree.specs.Tree.{depth_of, greatest, ids_of, nodes_of, pairs_of, steps_of}
use Rattle.bd_tree.proofs.BoundLemmas.{pairs_within}
use Rattle.bd_tree.proofs.ChainLemmas.{chain_nodes, chain_steps, chain_depth, chain_top}
use Rattle.bd_tree.proofs.NodeLemmas.{ids_of-Block, nodes_of-Block, steps_of-Block, depth_of-Block}
use Rattle.bd_links.specs.declared.parts.Fault.{Fault}
use Rattle.bd_links.specs.Sound.{IsSound, are_below, below_step, first_fault}
use Rattle.bd_links.proofs.Faultless.{none_where_sound}
use Rattle.bd_links.proofs.InRange.{chain_below}
use Rattle.bd_deorder.specs.Deordered.{Answers, IsDeordered}
use Rattle.plan_core.specs.Core.{Begins, CoreView, opening}
use Rattle.plan_core.specs.Law.{MayBegin}
use Rattle.plan_core.specs.declared.judge.BeginErr.{BeginErr}
use Rattle.plan_core.specs.declared.judge.BeginErr.TheVariants.{Unsound}
use Rattle.seq_check.specs.declared.judging.Broken.{Broken}
use Rattle.seq_check.specs.declared.judging.Broken.TheVariants.{Step, Goal}
use Rattle.seq_check.proofs.BreakLemmas.{unbroken_is}
use Rattle.plan_loosen.specs.Opened.{IsOpened}

-- a flat tree counts as the chain of its list does
module _ (list : List ℕ) (order : List (ℕ × ℕ)) where
  abbrev kids : List Node
  kids = steps_from 1 list

  abbrev chained : List (ℕ × ℕ)
  chained = total_order (length list)

  abbrev flat : Node
  flat = Block 0 kids order

  flat_nodes : nodes_of flat ≡ length list + 1
  flat_nodes = nodes_of-Block 0 kids order ∙ sym (nodes_of-Block 0 kids chained) ∙ chain_nodes list

  flat_steps : steps_of flat ≡ length list
  flat_steps = steps_of-Block 0 kids order ∙ sym (steps_of-Block 0 kids chained) ∙ chain_steps list

  flat_depth : depth_of flat ≤ 2
  flat_depth = omega (arith, depth_of-Block 0 kids order, depth_of-Block 0 kids chained, chain_depth list)

  flat_top : greatest (ids_of flat) ≤ length list
  flat_top = omega (arith, ap greatest (ids_of-Block 0 kids order ∙ sym (ids_of-Block 0 kids chained)), chain_top list)

  below_all : (n : ℕ) (o : List (ℕ × ℕ)) → are_below n (Block 0 kids o) ≡ list_all (λ b. b) (map (are_below n) kids)
  below_all n o = ap (are_below n) (sym (rolls-Block 0 kids o)) ∙ fold-roll-Node Bool (below_step n) (Node-F.Block 0 kids o)

  flat_below : (n : ℕ) → All (λ a. a < n) list → are_below n flat ≡ true
  flat_below n there = below_all n order ∙ sym (below_all n chained) ∙ chain_below n list (recursion_from_All (λ a. a < n) list there)

module _ (task : TaskView) (list : List ℕ) (there : All (λ a. a < length task.actions) list) (few : length list ≤ 2_000) where
  module _ (root : Node) (is : IsDeordered task list root) where
    abbrev order : List (ℕ × ℕ)
    order = is.order

    pub deordered_may : MayBegin task root
    deordered_may = record {
      formed = is.well_formed;
      actions = ap (are_below (length task.actions)) is.flat ∙ flat_below list order (length task.actions) there;
      shallow = omega (arith, ap depth_of is.flat, flat_depth list order);
      short = omega (arith, ap steps_of is.flat, flat_steps list order);
      few = omega (arith, ap nodes_of is.flat, flat_nodes list order);
      ids = omega (arith, ap (λ (n : Node). greatest (ids_of n)) is.flat, flat_top list order);
    }

    pairs_few : pairs_of root ≤ 4_000_000
    pairs_few =
        let short : steps_of root ≤ 2_000 = deordered_may.short in
        omega (arith, pairs_within root is.well_formed.orders, mul-le (steps_of root) (steps_of root) 2_000 2_000 short short)

    -- the core that opens on it
    opened_is : (core : CoreView) → core ≡ opening task root 1_000_000 → IsOpened task list core
    opened_is core same = subst (IsOpened task list) (sym same) record {
      opens = (refl, refl, refl);
      starts = is;
      few = pairs_few;
      nothing = refl;
    }

    -- the same of what the beginning of a core comes to
    pub opened_told : {E : Type 0} (r : Result CoreView E) → IfOk r (λ core. core ≡ opening task root 1_000_000) → IfOk r (λ core. IsOpened task list core)
    opened_told (Ok core) same = opened_is core same
    opened_told (Err e) same = tt

  -- a valid list has no break
  answer_is : IsValid task list → (r : Result Node Broken) → Answers task list (first_break task list) r → Answers task list None r
  answer_is valid r answers = subst (λ (o : Option Break). Answers task list o r) ((unbroken_is task list there).1 valid) answers

  pub no_step : IsValid task list → (r : Result Node Broken) (b : Broken) (at f : ℕ) → r ≡ Err b → b ≡ Step at f → Answers task list (first_break task list) r → ⊥
  no_step valid r b at f is same answers = subst (λ z. Answers task list None z) (is ∙ ap Err same) (answer_is valid r answers)

  pub no_goal : IsValid task list → (r : Result Node Broken) (b : Broken) (f : ℕ) → r ≡ Err b → b ≡ Goal f → Answers task list (first_break task list) r → ⊥
  no_goal valid r b f is same answers = subst (λ z. Answers task list None z) (is ∙ ap Err same) (answer_is valid r answers)

apart : (f : Fault) (o : Option Fault) → o ≡ None → o ≡ Some f → ⊥
apart f o e h = cc

pub no_fault : (task : TaskView) (start : Node) → IsSound task start → (f : Fault) → first_fault task start ≡ Some f → ⊥
no_fault task start sound f told = apart f (first_fault task start) ((none_where_sound task start).1 sound) told

pub told_fault : (task : TaskView) (start : Node) (stop : ℕ) (e : BeginErr) (f : Fault) → e ≡ Unsound f → Begins task start stop (Err e) → first_fault task start ≡ Some f
told_fault task start stop e f is b = subst (λ z. Begins task start stop (Err z)) is b
