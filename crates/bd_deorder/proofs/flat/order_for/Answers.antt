use Rattle.std.proofs.Common.{◌≡◌, ◌<◌, ℕ, List, [], get_or, length, ap, ◌∙◌, subst}
use Rattle.std.specs.List.{enumerate_from}
use Rattle.bd_base.specs.Facts.{IsRising}
use Rattle.bd_links.specs.Child.{Child}
use Rattle.bd_links.specs.Rows.{Tells}
use Rattle.bd_tree.specs.declared.node.Node.{Block}
use Rattle.bd_tree.specs.Chain.{steps_from}
use Rattle.bd_deorder.specs.Deordered.{IsDeordered}
use Rattle.bd_deorder.specs.Direct.{is_direct, stacked}
use Rattle.bd_deorder.proofs.TreeLemmas.{if_ok, rows_within, deordered}
use Rattle.bd_deorder.proofs.flat.order_for.Goals as goal

pub close_rows-requires : goal.close_rows-requires
close_rows-requires c =
    let task = c.args.task.now in
    let t = c.in_ok-touches.touches in
    let kids = c.in_ok-kids.kids.items in
    let seen = c.deref-2.result.now in
    rows_within task c.args.list.now t kids c.in_ok-rows.rows.items c.in_ok-kids.ensures
    (subst (λ (z : List Child). Tells t (enumerate_from 0 z)) c.deref.ensures.value c.in_ok-touches.ensures)
    (c.in_ok-rows.ensures.len ∙ ap (λ (z : List Child). length z) c.deref-2.ensures.value)
    (λ a b. c.in_ok-rows.ensures.direct a b
    ∙ ap (λ (z : List ℕ). is_direct z c.goal.result.now t (length seen) (enumerate_from 0 seen) a b) c.init.ensures.set
    ∙ ap (λ (z : List ℕ). is_direct task.init z t (length seen) (enumerate_from 0 seen) a b) c.goal.ensures.set
    ∙ ap (λ (z : List Child). is_direct task.init task.goal t (length z) (enumerate_from 0 z) a b) c.deref-2.ensures.value)

pub returns : goal.returns
returns c =
    let task = c.args.task.now in
    let list = c.args.list.now in
    let t = c.in_ok-touches.touches in
    let kids = c.in_ok-kids.kids.items in
    let seen = c.deref-2.result.now in
    let direct = c.in_ok-rows.rows.items in
    let rows = c.close_rows.new.rows.items in
    if_ok (λ o. o ≡ stacked 0 c.deref-3.result.now) (λ o. (k : ℕ) → k < length c.deref-3.result.now → IsRising (get_or c.deref-3.result.now k [])) (λ o. IsDeordered task list (Block 0 (steps_from 1 list) o)) c.order_of.result
    (λ o is rising. deordered task list t kids direct rows o c.requires.in_range c.requires.valid c.in_ok-kids.ensures
    (subst (λ (z : List Child). Tells t (enumerate_from 0 z)) c.deref.ensures.value c.in_ok-touches.ensures)
    (c.in_ok-rows.ensures.len ∙ ap (λ (z : List Child). length z) c.deref-2.ensures.value)
    (λ a b. c.in_ok-rows.ensures.direct a b
    ∙ ap (λ (z : List ℕ). is_direct z c.goal.result.now t (length seen) (enumerate_from 0 seen) a b) c.init.ensures.set
    ∙ ap (λ (z : List ℕ). is_direct task.init z t (length seen) (enumerate_from 0 seen) a b) c.goal.ensures.set
    ∙ ap (λ (z : List Child). is_direct task.init task.goal t (length z) (enumerate_from 0 z) a b) c.deref-2.ensures.value)
    c.in_ok-close_rows.ensures
    (is ∙ ap (λ (z : List (List ℕ)). stacked 0 z) c.deref-3.ensures.value)
    (subst (λ (z : List (List ℕ)). (k : ℕ) → k < length z → IsRising (get_or z k [])) c.deref-3.ensures.value rising))
    c.order_of.ensures.order c.order_of.ensures.rising
