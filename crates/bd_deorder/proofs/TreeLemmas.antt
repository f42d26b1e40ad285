-- Flat trees, and what deordering answers.
use Rattle.std.proofs.Common.{◌≡◌, ◌≢◌, ℕ, ◌+◌, ◌<◌, ◌≤◌, Bool, true, false, ◌&&◌, List, [], ◌∷◌, ◌++◌, map, length, drop, get_or, Option, Some, None, Result, Ok, Err, refl, sym, ap, ◌∙◌, subst, inl, inr, arith, IfOk}
use Rattle.std.specs.List.{list_all, enumerate_from, All}
use Rattle.std.proofs.lemmas.Bool.{and_parts, and_from}
use Rattle.std.proofs.lemmas.List.Elements.{recursion_from_All}
use Rattle.std.proofs.lemmas.List.{drop_all, append-nil, length-map}
use Rattle.bd_base.specs.Facts.{IsRising}
use Rattle.bd_base.specs.Pairs.{is_before, total_order}
use Rattle.bd_task.specs.TaskView.{TaskView}
use Rattle.bd_task.specs.Valid.{IsValid}
use Rattle.bd_tree.specs.declared.node.Node.{Node, Block}
use Rattle.bd_tree.specs.Chain.{steps_from}
use Rattle.bd_tree.specs.Misfit.{leads_to}
use Rattle.bd_tree.specs.Order.{is_order}
use Rattle.bd_tree.specs.Tree.{listed_of}
use Rattle.bd_tree.specs.WellFormed.{IsWellFormed, are_distinct, has_orders}
use Rattle.bd_tree.proofs.ChainLemmas.{chain_well_formed, chain_listed}
use Rattle.bd_tree.proofs.NodeLemmas.{ids_of-Block, is_root-Block, has_orders-Block, listed_of-Block}
use Rattle.bd_links.specs.declared.parts.Touches.{Touches}
use Rattle.bd_links.specs.Rows.{Tells}
use Rattle.bd_deorder.specs.Closed.{IsWithin, Closes}
use Rattle.bd_deorder.specs.Deordered.{IsDeordered}
use Rattle.bd_deorder.specs.Direct.{children_of, has_pair, is_direct, stacked}
use Rattle.bd_deorder.proofs.DirectLaw.{sound_with, direct_within, reasons_for}
use Rattle.bd_deorder.proofs.PairLemmas.{are_rising, stacked_before, stacked_order, uncovered}

pub if_ok : {T : Type 0} {E : Type 0} (P Q R : T → Type 0) (r : Result T E) → ((t : T) → P t → Q t → R t) → IfOk r P → IfOk r Q → IfOk r R
if_ok P Q R (Ok t) h p q = h t p q
if_ok P Q R (Err e) h p q = tt

pub done_flat : (list : List ℕ) (done kids : List Node) (id i : ℕ) (order : List (ℕ × ℕ)) → length list ≤ i → done ++ steps_from id (drop i list) ≡ steps_from 1 list →
    kids ≡ done → Block 0 kids order ≡ Block 0 (steps_from 1 list) order
done_flat list done kids id i order le put same =
    let whole : kids ≡ steps_from 1 list = same ∙ sym (append-nil done) ∙ ap (λ z. done ++ steps_from id z) (sym (drop_all i list le)) ∙ put in
    ap (λ z. Block 0 z order) whole

steps_count : (m : ℕ) (list : List ℕ) → length (steps_from m list) ≡ length list
steps_count m [] = refl
steps_count m (a ∷ list) = ap Rattle.std.proofs.Common.suc (steps_count (m + 1) list)

pub children_count : (actions : List Rattle.bd_task.specs.declared.ground.Action.Action) (m : ℕ) (list : List ℕ) → length (children_of actions m list) ≡ length list
children_count actions m [] = refl
children_count actions m (a ∷ list) = ap Rattle.std.proofs.Common.suc (children_count actions (m + 1) list)

flat_well_formed : (list : List ℕ) (order : List (ℕ × ℕ)) → is_order (length list) order ≡ true → IsWellFormed (Block 0 (steps_from 1 list) order)
flat_well_formed list order is =
    let steps = steps_from 1 list in
    let chain = chain_well_formed list in
    let parts = and_parts (list_all (λ k. k) (map has_orders steps)) (is_order (length (map has_orders steps)) (total_order (length list))) (sym (has_orders-Block 0 steps (total_order (length list))) ∙ chain.orders) in
    record {
      rooted = is_root-Block 0 steps order;
      distinct = ap are_distinct (ids_of-Block 0 steps order ∙ sym (ids_of-Block 0 steps (total_order (length list)))) ∙ chain.distinct;
      orders = has_orders-Block 0 steps order ∙ and_from _ _ parts.0 (ap (λ n. is_order n order) (length-map steps has_orders ∙ steps_count 1 list) ∙ is);
    }

flat_listed : (list : List ℕ) (order : List (ℕ × ℕ)) → listed_of (Block 0 (steps_from 1 list) order) ≡ list
flat_listed list order = listed_of-Block 0 (steps_from 1 list) order ∙ sym (listed_of-Block 0 (steps_from 1 list) (total_order (length list))) ∙ chain_listed list

-- the pairs of the direct rows are within
pub rows_within : (task : TaskView) (list : List ℕ) (t : Touches) (cs : List Rattle.bd_links.specs.declared.parts.Child.Child) (rows : List (List ℕ)) → cs ≡ children_of task.actions 1 list → Tells t (enumerate_from 0 cs) → length rows ≡ length cs
    → ((a b : ℕ) → has_pair rows a b ≡ is_direct task.init task.goal t (length cs) (enumerate_from 0 cs) a b) → IsWithin rows
rows_within task list t cs rows same tells len is a b e =
    let told : Tells t (enumerate_from 0 (children_of task.actions 1 list)) = subst (λ z. Tells t (enumerate_from 0 z)) same tells in
    let put : is_direct task.init task.goal t (length (children_of task.actions 1 list)) (enumerate_from 0 (children_of task.actions 1 list)) a b ≡ true = subst (λ z. is_direct task.init task.goal t (length z) (enumerate_from 0 z) a b ≡ true) same (sym (is a b) ∙ e) in
    let w = direct_within task list t told a b put in
    (w.0, omega (arith, w.1, ap length same))

pub deordered : (task : TaskView) (list : List ℕ) (t : Touches) (cs : List Rattle.bd_links.specs.declared.parts.Child.Child) (direct rows : List (List ℕ)) (order : List (ℕ × ℕ)) → All (λ a. a < length task.actions) list → IsValid task list
    → cs ≡ children_of task.actions 1 list → Tells t (enumerate_from 0 cs) → length direct ≡ length cs → ((a b : ℕ) → has_pair direct a b ≡ is_direct task.init task.goal t (length cs) (enumerate_from 0 cs) a b)
    → Closes direct rows → order ≡ stacked 0 rows → ((k : ℕ) → k < length rows → IsRising (get_or rows k [])) → IsDeordered task list (Block 0 (steps_from 1 list) order)
deordered task list t cs direct rows order there valid same tells len is closes o rising =
    let told : Tells t (enumerate_from 0 (children_of task.actions 1 list)) = subst (λ z. Tells t (enumerate_from 0 z)) same tells in
    let put : (a b : ℕ) → has_pair direct a b ≡ is_direct task.init task.goal t (length (children_of task.actions 1 list)) (enumerate_from 0 (children_of task.actions 1 list)) a b =
    λ a b. subst (λ z. has_pair direct a b ≡ is_direct task.init task.goal t (length z) (enumerate_from 0 z) a b) same (is a b) in
    let count : length rows ≡ length list = closes.len ∙ len ∙ ap length same ∙ children_count task.actions 1 list in
    let before : (a b : ℕ) → is_before order a b ≡ has_pair rows a b = λ a b. ap (λ z. is_before z a b) o ∙ stacked_before rows a b in
    record {
      order = order;
      flat = refl;
      well_formed = flat_well_formed list order (ap (λ n. is_order n order) (sym count) ∙ ap (is_order (length rows)) o
          ∙ stacked_order rows (are_rising rows rising) closes.within (λ a b c e f. closes.closed a b c (omega arith) e f));
      listed = flat_listed list order;
      sound = sound_with task list t told order (recursion_from_All (λ a. a < length task.actions) list there) valid (λ a b e. before a b ∙ closes.contains a b (put a b ∙ e));
      reasons = λ a b first second e f pair none. reasons_for task list t told a b first second e f
          (sym (put a b) ∙ uncovered direct rows closes.covered a b (sym (ap (λ z. is_before z a b) o) ∙ pair) (sym (ap (λ z. leads_to z (a, b)) o) ∙ none));
    }
