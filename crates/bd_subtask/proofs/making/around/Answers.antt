use Rattle.std.proofs.Common.{◌∙◌, ap, eqb, map, refl}
use Rattle.std.specs.List.{enumerate_from}
use Rattle.bd_tree.specs.Tree.{id_of}
use Rattle.bd_subtask.specs.Level.{stands_behind, stands_in_front}
use Rattle.bd_merge.specs.declared.window.Window.{Window}
use Rattle.bd_links.specs.declared.parts.Effects.{Effects}
use Rattle.bd_subtask.specs.Subtask.{around, back_kids, front_kids}
use Rattle.bd_subtask.proofs.MarkLemmas.{back_is, deletes_are, front_is, gives_are, made, members_are, needs_are}
use Rattle.bd_subtask.proofs.making.around.Goals as goal

pub returns : goal.returns
returns c task kept =
    let window = c.args.window.now in
    let ks = c.args.kids.now in
    let order = c.args.order.now in
    let level = c.args.level.now in
    let rows = c.as_slice-rows.ensures.value in
    let touched = c.as_slice-touched.ensures.value in
    let inside = c.as_slice-inside.ensures.value ∙ c.in_ok-carried.ensures in
    let members = members_are (map id_of window.kids) _ _ ks inside (c.as_slice.ensures.value ∙ c.in_ok-members.ensures) in
    let front = front_is task window ks order level kept _ _ rows _ members _ inside _ c.as_slice-in_front.ensures.value (c.in_ok-sides.ensures.front ∙ ap (λ (w : Window). map (stands_in_front w.lean order c.as_slice.result.now) (enumerate_from 0 c.as_slice-inside.result.now)) c.window.view_is) in
    let back = back_is task window ks order level kept _ _ rows _ members _ inside _ c.as_slice-behind.ensures.value (c.in_ok-sides.ensures.back ∙ ap (λ (w : Window). map (stands_behind w.lean order c.as_slice.result.now) (enumerate_from 0 c.as_slice-inside.result.now)) c.window.view_is) in
    let in_front = front_kids task.actions window ks order in
    let behind = back_kids task.actions window ks order in
    made (around task window ks order) _ _ _ _ _ _ _
    (ap (λ (w : Window). eqb w.block 0) c.window.view_is)
    (gives_are task window ks order level kept _ _ rows in_front front c.in_ok-front.front _ touched c.in_ok-front.ensures _ _ refl c.in_ok-front_gives.ensures)
    (deletes_are task window ks order level kept _ _ rows in_front front c.in_ok-front.front _ touched c.in_ok-front.ensures _ _ refl c.in_ok-front_deletes.ensures)
    (needs_are task window ks order level kept _ _ rows behind back c.in_ok-back.back _ touched c.in_ok-back.ensures _ _ refl c.in_ok-back_needs.ensures)
    (gives_are task window ks order level kept _ _ rows behind back c.in_ok-back.back _ touched c.in_ok-back.ensures _ _ refl c.in_ok-back_gives.ensures)
    (c.in_ok-gives.ensures ∙ ap (λ (e : Effects). e.add) kept.whole)
    (c.in_ok-deletes.ensures ∙ ap (λ (e : Effects). e.del) kept.whole)
