use Rattle.std.proofs.Common.{◌≡◌, ◌∙◌, true, false, sym, subst, slice_index}
use Rattle.bd_base.specs.Facts.{has}
use Rattle.bd_links.specs.Rows.{is_aside, is_later}
use Rattle.std.proofs.lemmas.Bool.{and_parts, and_from}
use Rattle.bd_links.proofs.PastLemmas.{find_at, find_none, link_barred, barred_later, link_needs, link_found, link_missed}
use Rattle.bd_links.proofs.links.any_links_past.Goals as goal
use Rattle.bd_links.proofs.links.any_links_past.Goals.{then-may_link+in-Some, else-may_link}

pub returns-in-None : goal.returns-in-None
returns-in-None c =
    let order = c.args.order.now in
    let j = c.args.j in
    let i = slice_index c.args.givers.now c.loop-i.i-index in
    let before = (and_parts _ _ (sym c.may_link.ensures ∙ c.if-may_link.true)).0 in
    link_found order c.args.deleters.now j c.args.givers.now c.loop-i.i-index c.loop-i-test.true c.loop-i.invariant.left
    (and_from _ _ before (find_none (is_aside order i j) c.args.deleters.now c.in-None.ensures))

pub loop-i-preserved : goal.loop-i-preserved
loop-i-preserved c =
    let order = c.args.order.now in
    let deleters = c.args.deleters.now in
    let j = c.args.j in
    let i = slice_index c.args.givers.now c.loop-i.i-index in
    let inv = c.loop-i.invariant in
    let missed = link_missed order deleters j c.args.givers.now c.loop-i.i-index c.loop-i-test.true inv.left in
    elim c.if-may_link.branch [
      | then-may_link+in-Some w ↦
          let at = find_at (is_aside order i j) deleters _ w.in-Some.ensures in
          record {
            found = subst (λ z. has deleters z ≡ true) (sym w.m-is) at.0;
            unordered = subst (λ z. is_later order j z ≡ false) (sym w.m-is) (barred_later order deleters j i _ at.1);
            left = missed (link_barred order deleters j i _ at.0 at.1);
          }
      | else-may_link w ↦ record {
        found = subst (λ z. has deleters z ≡ true) (sym w.m-is) inv.found;
        unordered = subst (λ z. is_later order j z ≡ false) (sym w.m-is) inv.unordered;
        left = missed (link_needs order deleters j c.loop-i.m i inv.found inv.unordered (sym c.may_link.ensures ∙ w.if-may_link.false));
      }
    ]
